use Rattle.std.proofs.Common.{codes, ◌-◌}
use Rattle.sky_io.proofs.Writes.{Under}
use Rattle.sql_rules.specs.PrintedExprs.{behind_each}
use Rattle.transcript_rules.specs.ColumnNames.{place_names}
use Rattle.column_text.proofs.column_places.put_places.Given as goal

abbrev pub invariant-loop-place : goal.invariant-loop-place
invariant-loop-place g l = record {
  under : Under (g.K.Sink.state l.fn.sink) (g.K.Sink.state l.sink)
      (behind_each (codes ",") (place_names l.place (l.to - l.place)))
      (behind_each (codes ",") (place_names l.fn.from (l.to - l.fn.from)));
}
