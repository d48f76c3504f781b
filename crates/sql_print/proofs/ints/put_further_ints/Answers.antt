use Rattle.std.proofs.Common.{codes}
use Rattle.sky_io.proofs.Writes.{under_fail, under_more}
use Rattle.sql_rules.specs.PrintedConds.{print_int}
use Rattle.sql_rules.proofs.Listed.{next_part}
use Rattle.sql_print.proofs.ints.put_further_ints.Goals as goal

pub returns-in-Failed : goal.returns-in-Failed
returns-in-Failed g c =
    let next = next_part (codes ",") print_int c.args.rest.now c.loop-int.int-index c.int-item.result c.loop-int-test.true c.int-item.is in
    under_fail _ _ _ _ _ _ (rw next at c.loop-int.invariant.under) c.in-Failed.ensures

pub loop-int-preserved : goal.loop-int-preserved
loop-int-preserved g c =
    let next = next_part (codes ",") print_int c.args.rest.now c.loop-int.int-index c.int-item.result c.loop-int-test.true c.int-item.is in
    record { under = under_more _ _ _ _ _ _ (rw next at c.loop-int.invariant.under) c.in-Done.ensures }
