use Rattle.std.proofs.Common.{◌≡◌, ◌++◌}
use Rattle.std.specs.Vec.Iter.{into_iter_items}
use Rattle.child_session.specs.ChildQueryPlans.{child_plans_of}
use Rattle.child_session.proofs.form.query_plans.Given as goal

-- the plans so far, with those that follow, are all
abbrev pub invariant-loop-plan : goal.invariant-loop-plan
invariant-loop-plan l = child_plans_of l.query_plans.items ++ into_iter_items l.plan-iterator ≡ l.fn.plans.items
