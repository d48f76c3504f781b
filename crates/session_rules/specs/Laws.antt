-- Which ends fit, query by query, and what a cancel in time is among the steps of a script.
use Rattle.std.specs.Prelude.{◌≡◌, ℕ, ◌+◌, true, false, List, ◌∷◌, ◌++◌, length, Some, slice_get}
use Rattle.std.specs.List.{list_any}
use Rattle.sql_token.specs.declared.token.Span.{Span}
use Rattle.session_script.specs.Laws.{NumberedFrom}
use Rattle.session_script.specs.Scripts.{query_count}
use Rattle.session_script.specs.declared.step.Step.{Step}
use Rattle.session_script.specs.declared.step.Step.TheVariants.{Query, Cancel}
use Rattle.session_rules.specs.Ends.{Judged, fit, has_cancel, has_prompt_cancel, is_wait, may_end, waits_for}
use Rattle.session_rules.specs.declared.end.EndKind.{EndKind}

-- ends fit if there is one for each query, and each query may have its end
abbrev pub FitsByEach : Type 0
FitsByEach =
    (workers : ℕ) (steps : List Step) (judged : List Judged) (ends : List EndKind)
    → length judged ≡ query_count steps → length ends ≡ length judged
    → ((i : ℕ) (j : Judged) (e : EndKind) → slice_get judged i ≡ Some j → slice_get ends i ≡ Some e
    → may_end workers steps (i + 1) j e ≡ true)
    → fit workers steps judged ends ≡ true

-- if a cancel of a query is after the query, with no wait for it between, it comes in time
abbrev pub CancelStands : Type 0
CancelStands =
    (a b c : List Step) (k : ℕ) (span : Span) → NumberedFrom 0 (a ++ Query k span ∷ (b ++ Cancel k ∷ c))
    → list_any (waits_for k) b ≡ false → has_cancel (a ++ Query k span ∷ (b ++ Cancel k ∷ c)) k ≡ true

-- a prompt cancel of a query splits the steps: those before the query, those between, of which none is a wait, and
-- those after the cancel
abbrev pub PromptIsASplit : Type 0
PromptIsASplit =
    (steps : List Step) (k : ℕ) → has_prompt_cancel steps k ≡ true
    → (a : List Step) × (b : List Step) × (c : List Step) × (span : Span)
    × (steps ≡ a ++ Query k span ∷ (b ++ Cancel k ∷ c)) × (list_any is_wait b ≡ false)
