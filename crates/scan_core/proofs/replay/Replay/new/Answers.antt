use Rattle.scan_core.proofs.Replaying.{replayed_none}
use Rattle.scan_core.proofs.Storing.{kept_new}
use Rattle.scan_core.proofs.replay.Replay.new.Goals as goal

pub invariant_of-result : goal.invariant_of-result
invariant_of-result c = replayed_none c.args.ring c.args.lines.now c.in_ok-slots.slots _ (kept_new c.args.ring c.in_ok-slots.slots c.requires c.in_ok-slots.ensures) c.new.ensures.items
