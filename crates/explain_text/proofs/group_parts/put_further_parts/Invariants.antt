use Rattle.std.proofs.Common.{drop}
use Rattle.std.specs.List.{flat_map}
use Rattle.sky_io.proofs.Writes.{Under}
use Rattle.explain_text.specs.Explaining.{parts_of}
use Rattle.column_text.specs.Parted.{parted}
use Rattle.explain_text.proofs.group_parts.put_further_parts.Given as goal

abbrev pub invariant-loop-item : goal.invariant-loop-item
invariant-loop-item g l = record {
  under : Under (g.K.Sink.state l.fn.sink) (g.K.Sink.state l.sink)
      (parted l.begun (flat_map parts_of (drop l.item-index l.rest)))
      (parted l.fn.begun (flat_map parts_of l.rest));
}
