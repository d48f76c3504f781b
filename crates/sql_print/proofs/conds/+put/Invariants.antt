use Rattle.std.proofs.Common.{codes, map, drop}
use Rattle.sky_io.proofs.Writes.{Under}
use Rattle.sql_rules.specs.PrintedConds.{print_conj, print_neg}
use Rattle.sql_rules.specs.PrintedExprs.{behind_each}
use Rattle.sql_print.proofs.conds.+put.Given as goal

abbrev pub invariant-put_conjs-loop-conj : goal.invariant-put_conjs-loop-conj
invariant-put_conjs-loop-conj g l = record {
  under : Under (g.K.Sink.state l.fn.sink) (g.K.Sink.state l.sink)
      (behind_each (codes " OR ") (map print_conj (drop l.conj-index l.rest)))
      (behind_each (codes " OR ") (map print_conj l.rest));
}

abbrev pub invariant-put_negs-loop-neg : goal.invariant-put_negs-loop-neg
invariant-put_negs-loop-neg g l = record {
  under : Under (g.K.Sink.state l.fn.sink) (g.K.Sink.state l.sink)
      (behind_each (codes " AND ") (map print_neg (drop l.neg-index l.rest)))
      (behind_each (codes " AND ") (map print_neg l.rest));
}
