use Rattle.std.proofs.Common.{codes, map, drop}
use Rattle.sky_io.proofs.Writes.{Under}
use Rattle.sql_rules.specs.PrintedExprs.{behind_each, print_col}
use Rattle.sql_print.proofs.query.put_further_cols.Given as goal

abbrev pub invariant-loop-col : goal.invariant-loop-col
invariant-loop-col g l = record {
  under : Under (g.K.Sink.state l.fn.sink) (g.K.Sink.state l.sink)
      (behind_each (codes ",") (map print_col (drop l.col-index l.rest)))
      (behind_each (codes ",") (map print_col l.rest));
}
