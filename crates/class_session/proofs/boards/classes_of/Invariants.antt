use Rattle.std.proofs.Common.{◌≡◌, take}
use Rattle.class_session.specs.ClassPlans.{classes_for}
use Rattle.class_session.proofs.boards.classes_of.Given as goal

abbrev pub invariant-loop-plan : goal.invariant-loop-plan
invariant-loop-plan l = l.classes.items ≡ classes_for (take l.plan-index l.fn.plans)
