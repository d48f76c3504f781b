use Rattle.std.proofs.Common.{codes, map, drop}
use Rattle.sky_io.proofs.Writes.{Under}
use Rattle.sql_rules.specs.PrintedExprs.{behind_each}
use Rattle.explain_text.specs.Explaining.{kind_text}
use Rattle.explain_text.proofs.chunk_items.put_further_kinds.Given as goal

abbrev pub invariant-loop-item : goal.invariant-loop-item
invariant-loop-item g l = record {
  under : Under (g.K.Sink.state l.fn.sink) (g.K.Sink.state l.sink)
      (behind_each (codes ",") (map kind_text (drop l.item-index l.rest)))
      (behind_each (codes ",") (map kind_text l.rest));
}
