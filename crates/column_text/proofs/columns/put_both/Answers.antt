use Rattle.sky_io.proofs.Writes.{wrote_one, wrote_two}
use Rattle.column_text.proofs.Parting.{as_text, both_columns}
use Rattle.column_text.proofs.columns.put_both.Goals as goal

pub returns-in-Failed : goal.returns-in-Failed
returns-in-Failed g c = as_text _ _ _ _ _ (both_columns c.args.schema.now c.args.first.now c.args.second.now) (wrote_one _ _ _ _ c.in-Failed.ensures)

pub returns-in-Done : goal.returns-in-Done
returns-in-Done g c = as_text _ _ _ _ _ (both_columns c.args.schema.now c.args.first.now c.args.second.now) (wrote_two _ _ _ _ _ _ c.in-Done.ensures c.put_further_qualified.ensures)
