use Rattle.std.proofs.Common.{◌≡◌, drop}
use Rattle.std.specs.List.{list_all}
use Rattle.scan_core.specs.declared.slot.Slot.{Slot}
use Rattle.scan_core.specs.Replays.{runs_among}
use Rattle.scan_core.proofs.replay.may_lose_all.Given as goal

abbrev pub invariant-loop-q : goal.invariant-loop-q
invariant-loop-q l = (d : Slot) → list_all (runs_among l.slots.items l.taken d) (drop l.q-index l.lost) ≡ list_all (runs_among l.slots.items l.taken d) l.lost
