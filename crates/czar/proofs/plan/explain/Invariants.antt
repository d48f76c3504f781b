use Rattle.std.proofs.Common.{take}
use Rattle.session_script.specs.Views.{query_lines}
use Rattle.czar.specs.Plans.{ArePlans}
use Rattle.czar.proofs.plan.explain.Given as goal

abbrev pub invariant-loop-before : goal.invariant-loop-before
invariant-loop-before l = ArePlans l.world.plan l.world.rows (take l.before (query_lines l.script)) l.plans.items
