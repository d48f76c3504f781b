use Rattle.sky_io.proofs.Writes.{wrote_one, wrote_two}
use Rattle.column_text.proofs.Parting.{as_text, first_column}
use Rattle.column_text.proofs.columns.put_columns.Goals as goal

pub returns-in-Failed : goal.returns-in-Failed
returns-in-Failed g c = as_text _ _ _ _ _ (first_column c.args.side.now c.args.dot.now c.args.schema.now c.name.result.now c.name.ensures) (wrote_one _ _ _ _ c.in-Failed.ensures)

pub returns-in-Done : goal.returns-in-Done
returns-in-Done g c = as_text _ _ _ _ _ (first_column c.args.side.now c.args.dot.now c.args.schema.now c.name.result.now c.name.ensures) (wrote_two _ _ _ _ _ _ c.in-Done.ensures c.put_columns_from.ensures)
