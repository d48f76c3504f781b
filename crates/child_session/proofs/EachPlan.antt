-- The plans of a script's queries, one after the other.
use Rattle.std.proofs.Common.{◌≡◌, subst, ℕ, ◌+◌, ◌<◌, List, [], ◌∷◌, ◌++◌, length, take}
use Rattle.sql_rules.specs.PrintedExprs.{Bytes}
use Rattle.session_script.specs.Scripts.{query_count, query_text}
use Rattle.session_script.specs.Views.{ScriptView, query_lines}
use Rattle.session_script.specs.Laws.{LinesAreTexts}
use Rattle.query_ends.proofs.Lines.{all_lines, one_each, one_more}
use Rattle.child_session.specs.ChildPlans.{AreChildPlans, ChildPlanFor}
use Rattle.child_session.specs.declared.plan.ChildPlan.{ChildPlan}
use Rattle.child_session.specs.ChildSurvey.{ChildSurvey}

-- one plan more
pub one_planned : LinesAreTexts → (t : ChildSurvey) (s : ScriptView) (k : ℕ) (plans : List ChildPlan) (plan : ChildPlan)
    → k < query_count s.steps → AreChildPlans t (take k (query_lines s)) plans
    → ChildPlanFor t (query_text s.steps s.text (k + 1)) plan
    → AreChildPlans t (take (k + 1) (query_lines s)) (plans ++ plan ∷ [])
one_planned law t s k plans plan within are is = one_more (ChildPlanFor t) law s k plans plan within are is

-- as many plans as queries are those of all lines
pub all_planned : (t : ChildSurvey) (s : ScriptView) (plans : List ChildPlan)
    → AreChildPlans t (take (query_count s.steps) (query_lines s)) plans → AreChildPlans t (query_lines s) plans
all_planned t s plans are = subst (λ (texts : List Bytes). AreChildPlans t texts plans) (all_lines s) are

-- there are as many plans as queries
pub a_plan_each : (t : ChildSurvey) (s : ScriptView) (plans : List ChildPlan) → AreChildPlans t (query_lines s) plans
    → length plans ≡ query_count s.steps
a_plan_each t s plans are = one_each (ChildPlanFor t) s plans are
