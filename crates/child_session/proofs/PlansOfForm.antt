-- The plans of child queries as those of queries of any form: what holds of the one holds of the other.
use Rattle.std.proofs.Common.{◌≡◌, ◌∙◌, ap, refl, ℕ, List, [], ◌∷◌, map, Some, option_map, slice_get}
use Rattle.std.specs.List.{AllZip}
use Rattle.std.proofs.lemmas.Option.{slice_get-map}
use Rattle.sql_rules.specs.PrintedExprs.{Bytes}
use Rattle.child_rules.specs.declared.bound.ChildBound.{ChildBound}
use Rattle.query_ends.specs.Attached.{attached}
use Rattle.query_ends.specs.declared.plan.QueryPlan.{QueryPlan}
use Rattle.query_ends.specs.declared.plan.QueryPlan.TheVariants.{Planned, Refused}
use Rattle.child_session.specs.ChildAttached.{child_attached, first_child_piece}
use Rattle.child_session.specs.ChildPlans.{AreChildPlans, ChildPlanFor}
use Rattle.child_session.specs.ChildQueryPlans.{child_plan_of, child_plans_of}
use Rattle.child_session.specs.ChildSurvey.{ChildSurvey}

-- the plan at an index
pub planned_at : (plans : List (QueryPlan ChildBound)) (i : ℕ) (p : QueryPlan ChildBound) → slice_get plans i ≡ Some p
    → slice_get (child_plans_of plans) i ≡ Some (child_plan_of p)
planned_at plans i p there = slice_get-map child_plan_of plans i ∙ ap (option_map child_plan_of) there

-- what is attached for a query
attached_for : (p : QueryPlan ChildBound) → child_attached (child_plan_of p) ≡ attached first_child_piece p
attached_for (Planned head query chunks) = refl
attached_for (Refused why) = refl

pub all_attached_for : (plans : List (QueryPlan ChildBound))
    → map child_attached (child_plans_of plans) ≡ map (attached first_child_piece) plans
all_attached_for [] = refl
all_attached_for (p ∷ plans) =
    ap (λ it. it ∷ map child_attached (child_plans_of plans)) (attached_for p)
    ∙ ap (λ all. attached first_child_piece p ∷ all) (all_attached_for plans)

-- the plan of the query with this line
abbrev pub IsPlanOfLine : ChildSurvey → Bytes → QueryPlan ChildBound → Type 0
IsPlanOfLine t text p = ChildPlanFor t text (child_plan_of p)

pub of_lines : (t : ChildSurvey) (texts : List Bytes) (plans : List (QueryPlan ChildBound)) → AreChildPlans t texts (child_plans_of plans)
    → AllZip (IsPlanOfLine t) texts plans
of_lines t [] [] are = tt
of_lines t [] (p ∷ plans) are = absurd are
of_lines t (text ∷ texts) [] are = absurd are
of_lines t (text ∷ texts) (p ∷ plans) are = (are.0, of_lines t texts plans are.1)
