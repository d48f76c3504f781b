-- The plans of a script's queries, one after the other.
use Rattle.std.proofs.Common.{◌≡◌, subst, ℕ, ◌+◌, ◌<◌, List, [], ◌∷◌, ◌++◌, take}
use Rattle.table_rules.specs.Objects.{Catalogue}
use Rattle.sky_rules.specs.Partition.{Partition}
use Rattle.sql_rules.specs.PrintedExprs.{Bytes}
use Rattle.session_script.specs.Scripts.{query_count, query_text}
use Rattle.session_script.specs.Views.{ScriptView, query_lines}
use Rattle.session_script.specs.Laws.{LinesAreTexts}
use Rattle.query_ends.proofs.Lines.{all_lines, one_more}
use Rattle.czar.specs.Plans.{ArePlans, PlanFor}
use Rattle.czar.specs.QueryPlans.{Plan}

pub one_planned : LinesAreTexts → (g : Partition) (c : Catalogue) (s : ScriptView) (k : ℕ) (plans : List Plan) (plan : Plan)
    → k < query_count s.steps → ArePlans g c (take k (query_lines s)) plans
    → PlanFor g c (query_text s.steps s.text (k + 1)) plan
    → ArePlans g c (take (k + 1) (query_lines s)) (plans ++ plan ∷ [])
one_planned law g c s k plans plan within are is = one_more (PlanFor g c) law s k plans plan within are is

pub all_planned : (g : Partition) (c : Catalogue) (s : ScriptView) (plans : List Plan)
    → ArePlans g c (take (query_count s.steps) (query_lines s)) plans → ArePlans g c (query_lines s) plans
all_planned g c s plans are = subst (λ (texts : List Bytes). ArePlans g c texts plans) (all_lines s) are
