use Rattle.std.proofs.Common.{codes}
use Rattle.sky_io.proofs.Writes.{under_fail, under_more}
use Rattle.sql_rules.specs.PrintedExprs.{print_col}
use Rattle.sql_rules.proofs.Listed.{next_part}
use Rattle.sql_print.proofs.query.put_further_cols.Goals as goal

pub returns-in-Failed : goal.returns-in-Failed
returns-in-Failed g c =
    let next = next_part (codes ",") print_col c.args.rest.now c.loop-col.col-index c.col-item.result c.loop-col-test.true c.col-item.is in
    under_fail _ _ _ _ _ _ (rw next at c.loop-col.invariant.under) c.in-Failed.ensures

pub loop-col-preserved : goal.loop-col-preserved
loop-col-preserved g c =
    let next = next_part (codes ",") print_col c.args.rest.now c.loop-col.col-index c.col-item.result c.loop-col-test.true c.col-item.is in
    record { under = under_more _ _ _ _ _ _ (rw next at c.loop-col.invariant.under) c.in-Done.ensures }
