use Rattle.std.proofs.Common.{codes, map, drop}
use Rattle.sky_io.proofs.Writes.{Under}
use Rattle.sql_rules.specs.Printed.{print_item}
use Rattle.sql_rules.specs.PrintedExprs.{behind_each}
use Rattle.sql_print.proofs.items.put_further_items.Given as goal

abbrev pub invariant-loop-item : goal.invariant-loop-item
invariant-loop-item g l = record {
  under : Under (g.K.Sink.state l.fn.sink) (g.K.Sink.state l.sink)
      (behind_each (codes ",") (map print_item (drop l.item-index l.rest)))
      (behind_each (codes ",") (map print_item l.rest));
}
