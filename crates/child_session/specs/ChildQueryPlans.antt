-- The plans of child queries, from their plans as those of queries of any form.
use Rattle.std.specs.Prelude.{List, map}
use Rattle.child_rules.specs.declared.bound.ChildBound.{ChildBound}
use Rattle.query_ends.specs.declared.plan.QueryPlan.{QueryPlan}
use Rattle.query_ends.specs.declared.plan.QueryPlan.TheVariants.{Planned, Refused}
use Rattle.child_session.specs.declared.plan.ChildPlan.{ChildPlan}
use Rattle.child_session.specs.declared.plan.ChildPlan.TheVariants as child

-- the plan of a child query, from its plan as that of a query of any form
abbrev pub child_plan_of : QueryPlan ChildBound → ChildPlan
child_plan_of (Planned head query chunks) = child.Planned head query chunks
child_plan_of (Refused why) = child.Refused why

-- those of several queries
abbrev pub child_plans_of : List (QueryPlan ChildBound) → List ChildPlan
child_plans_of plans = map child_plan_of plans
