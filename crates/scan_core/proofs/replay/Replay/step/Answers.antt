use Rattle.std.proofs.Common.{sym, subst, ◌<◌, length}
use Rattle.scan_core.proofs.Replaying.{left_low}
use Rattle.scan_core.proofs.replay.Replay.step.Goals as goal

pub bounds-lines-self-inside : goal.bounds-lines-self-inside
bounds-lines-self-inside c = left_low c.self.inside.lines.now c.self.inside.done (subst (λ s. 0 < length s.rest) (sym c.self.view_is) c.requires.left)
