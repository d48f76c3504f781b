use Rattle.std.proofs.Common.{take}
use Rattle.session_script.specs.Views.{query_lines}
use Rattle.child_session.specs.ChildPlans.{AreChildPlans}
use Rattle.child_session.proofs.plan.child_plans.Given as goal

abbrev pub invariant-loop-before : goal.invariant-loop-before
invariant-loop-before l = AreChildPlans l.world (take l.before (query_lines l.script)) l.plans.items
