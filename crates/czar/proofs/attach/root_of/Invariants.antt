use Rattle.std.proofs.Common.{◌≡◌, take}
use Rattle.czar.specs.Attached.{base_over}
use Rattle.czar.proofs.attach.root_of.Given as goal

abbrev pub invariant-loop-asked : goal.invariant-loop-asked
invariant-loop-asked l = l.root ≡ base_over l.fn.world.plan l.fn.world.rows (take l.asked-index l.queries)
