-- What holds of every session: its ends fit its script, and a query without chunks is done.
use Rattle.std.specs.Prelude.{◌≡◌, ℕ, ◌+◌, List, [], ◌∷◌, Bool, true, false, length, Option, Some, None, slice_get}
use Rattle.std.specs.List.{list_any}
use Rattle.scan_rules.specs.Queries.{Journal, Done, Cancelled as CancelledState, Spent as SpentState, state_of}
use Rattle.scan_rules.specs.Runs.{IsRun}
use Rattle.session_script.specs.declared.step.Step.{Step}
use Rattle.session_script.specs.Laws.{NumberedFrom}
use Rattle.session_script.specs.Scripts.{query_count}
use Rattle.session_rules.specs.Ends.{Judged, asks, fit, is_refused}
use Rattle.session_rules.specs.declared.end.EndKind.{EndKind}
use Rattle.session_rules.specs.declared.end.EndKind.TheVariants.{Answered, Refused, Cancelled, Spent}
use Rattle.scan_session.specs.Plans.{Plans}
use Rattle.scan_session.specs.Drove.{Drove}

-- there are no chunks
abbrev pub is_empty : List ℕ → Bool
is_empty [] = true
is_empty (chunk ∷ chunks) = false

-- a query is refused early exactly if it is not planned, and a planned one is idle exactly if its plan is empty
abbrev pub IsJudgedBy : Option (List ℕ) → Judged → Type 0
IsJudgedBy None j = j.early ≡ true
IsJudgedBy (Some chunks) j = (j.early ≡ false) × (j.idle ≡ is_empty chunks)

-- how a query ends, by what its end shows: the final piece of a query that is done is answered, or refused
abbrev pub ShowsKind : Journal → ℕ → Option (List ℕ) → Judged → EndKind → Type 0
ShowsKind S q None j kind = kind ≡ Refused
ShowsKind S q (Some chunks) j Answered = (state_of S q ≡ Done) × (is_refused j ≡ false)
ShowsKind S q (Some chunks) j Refused = (state_of S q ≡ Done) × (is_refused j ≡ true)
ShowsKind S q (Some chunks) j Cancelled = state_of S q ≡ CancelledState
ShowsKind S q (Some chunks) j Spent = state_of S q ≡ SpentState

-- Each query has the journal of its board, which is a run and shows the session, and the plans of the queries of that board,
-- of which it is one.
pub record AreDriven (workers : ℕ) (plan : Plans) (steps : List Step) (ring : ℕ) (plans : ℕ → Plans) (S : ℕ → Journal) : Type 0 where
  pub run : (q : ℕ) → IsRun ring (S q)
  pub drove : (q : ℕ) → Drove workers (plans q) steps (S q)
  pub here : (q : ℕ) → plans q q ≡ plan q

-- the ends of a session fit its script
abbrev pub DroveFits : Type 0
DroveFits =
    (workers : ℕ) (plan : Plans) (steps : List Step) (ring : ℕ) (plans : ℕ → Plans) (S : ℕ → Journal) (judged : List Judged) (kinds : List EndKind)
    → NumberedFrom 0 steps → AreDriven workers plan steps ring plans S
    → length judged ≡ query_count steps → length kinds ≡ length judged
    → ((i : ℕ) (j : Judged) → slice_get judged i ≡ Some j → IsJudgedBy (plan (i + 1)) j)
    → ((i : ℕ) (j : Judged) (kind : EndKind) → slice_get judged i ≡ Some j → slice_get kinds i ≡ Some kind
    → ShowsKind (S (i + 1)) (i + 1) (plan (i + 1)) j kind)
    → fit workers steps judged kinds ≡ true

-- a query of the script whose plan has no chunks is done in the end: it is neither cancelled nor lost
abbrev pub EmptyIsDone : Type 0
EmptyIsDone =
    (workers : ℕ) (plan : Plans) (steps : List Step) (ring : ℕ) (S : Journal) (q : ℕ)
    → NumberedFrom 0 steps → IsRun ring S → Drove workers plan steps S
    → list_any (asks q) steps ≡ true → plan q ≡ Some [] → state_of S q ≡ Done
