use Rattle.std.proofs.Common.{drop}
use Rattle.std.specs.List.{flat_map}
use Rattle.sky_io.proofs.Writes.{Under}
use Rattle.explain_text.specs.Explaining.{spaced_number}
use Rattle.explain_text.proofs.explained.put_each_chunk.Given as goal

abbrev pub invariant-loop-chunk : goal.invariant-loop-chunk
invariant-loop-chunk g l = record {
  under : Under (g.K.Sink.state l.fn.sink) (g.K.Sink.state l.sink)
      (flat_map spaced_number (drop l.chunk-index l.chunks)) (flat_map spaced_number l.chunks);
}
