use Rattle.std.proofs.Common.{◌≡◌, take}
use Rattle.child_session.specs.ChildAttached.{child_base_of}
use Rattle.child_session.proofs.attach.root_of.Given as goal

abbrev pub invariant-loop-place : goal.invariant-loop-place
invariant-loop-place l = l.root ≡ child_base_of l.fn.world (take l.place l.fn.plans)
