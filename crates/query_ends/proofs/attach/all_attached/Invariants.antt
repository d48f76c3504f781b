use Rattle.std.proofs.Common.{◌≡◌, map, take}
use Rattle.query_ends.specs.Attached.{attached}
use Rattle.query_ends.proofs.attach.all_attached.Given as goal

abbrev pub invariant-loop-plan : goal.invariant-loop-plan
invariant-loop-plan g l = l.all.items ≡ map (attached g.F.QueryForm.first_piece) (take l.plan-index l.fn.plans)
