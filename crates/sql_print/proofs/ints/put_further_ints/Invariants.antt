use Rattle.std.proofs.Common.{codes, map, drop}
use Rattle.sky_io.proofs.Writes.{Under}
use Rattle.sql_rules.specs.PrintedConds.{print_int}
use Rattle.sql_rules.specs.PrintedExprs.{behind_each}
use Rattle.sql_print.proofs.ints.put_further_ints.Given as goal

abbrev pub invariant-loop-int : goal.invariant-loop-int
invariant-loop-int g l = record {
  under : Under (g.K.Sink.state l.fn.sink) (g.K.Sink.state l.sink)
      (behind_each (codes ",") (map print_int (drop l.int-index l.rest)))
      (behind_each (codes ",") (map print_int l.rest));
}
