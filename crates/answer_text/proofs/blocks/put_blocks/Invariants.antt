use Rattle.std.proofs.Common.{drop}
use Rattle.sky_io.proofs.Writes.{Under}
use Rattle.text_rules.specs.Readings.{joined}
use Rattle.answer_text.proofs.blocks.put_blocks.Given as goal

abbrev pub invariant-loop-place : goal.invariant-loop-place
invariant-loop-place g l = record {
  under : Under (g.K.Sink.state l.fn.sink) (g.K.Sink.state l.sink) (joined (drop l.place (g.B.Blocks.blocks l.text))) (joined (g.B.Blocks.blocks l.text));
}
