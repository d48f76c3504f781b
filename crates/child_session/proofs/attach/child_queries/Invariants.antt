use Rattle.std.proofs.Common.{◌≡◌, map, take}
use Rattle.child_session.specs.ChildAttached.{query_in_plan, query_values}
use Rattle.child_session.specs.ChildQueryPlans.{child_plans_of}
use Rattle.child_session.proofs.attach.child_queries.Given as goal

abbrev pub invariant-loop-plan : goal.invariant-loop-plan
invariant-loop-plan l = query_values l.queries.items ≡ map query_in_plan (child_plans_of (take l.plan-index l.fn.plans))
