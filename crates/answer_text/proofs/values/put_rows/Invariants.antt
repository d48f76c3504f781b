use Rattle.std.proofs.Common.{drop}
use Rattle.std.specs.List.{flat_map}
use Rattle.sky_io.proofs.Writes.{Under}
use Rattle.transcript_rules.specs.Tables.{row_line}
use Rattle.answer_text.proofs.values.put_rows.Given as goal

abbrev pub invariant-loop-place : goal.invariant-loop-place
invariant-loop-place g l = record {
  under : Under (g.K.Sink.state l.fn.sink) (g.K.Sink.state l.sink)
      (flat_map row_line (drop l.place l.table)) (flat_map row_line l.table);
}
