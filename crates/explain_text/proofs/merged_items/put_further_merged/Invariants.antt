use Rattle.std.proofs.Common.{codes, map, drop}
use Rattle.sky_io.proofs.Writes.{Under}
use Rattle.sql_rules.specs.PrintedExprs.{behind_each}
use Rattle.transcript_rules.specs.MergeLines.{merged_over}
use Rattle.explain_text.proofs.merged_items.put_further_merged.Given as goal

abbrev pub invariant-loop-item : goal.invariant-loop-item
invariant-loop-item g l = record {
  under : Under (g.K.Sink.state l.fn.sink) (g.K.Sink.state l.sink)
      (behind_each (codes ",") (map (merged_over l.keys) (drop l.item-index l.rest)))
      (behind_each (codes ",") (map (merged_over l.keys) l.rest));
}
