use Rattle.sky_io.proofs.Writes.{under_fail, under_more}
use Rattle.column_text.proofs.Parting.{next_column}
use Rattle.column_text.proofs.columns.put_columns_from.Goals as goal

pub returns-in-Failed : goal.returns-in-Failed
returns-in-Failed g c =
    let next = next_column c.args.side.now c.args.dot.now c.args.schema.now c.loop-col.col c.name.result.now c.name.ensures in
    under_fail _ _ _ _ _ _ (rw next at c.loop-col.invariant.under) c.in-Failed.ensures

pub loop-col-preserved : goal.loop-col-preserved
loop-col-preserved g c =
    let next = next_column c.args.side.now c.args.dot.now c.args.schema.now c.loop-col.col c.name.result.now c.name.ensures in
    record { under = under_more _ _ _ _ _ _ (rw next at c.loop-col.invariant.under) c.in-Done.ensures }
