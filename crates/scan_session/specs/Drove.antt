-- What a session promises, of the final lines that were seen, and of the end of each query.
use Rattle.std.specs.Prelude.{◌≡◌, ℕ, ◌+◌, ◌≤◌, List, ◌∷◌, ◌++◌, true, Option, Some, None, is_some, count_by, slice_get}
use Rattle.scan_rules.specs.declared.limits.TheConstants.{RUNNING_MOST}
use Rattle.scan_rules.specs.Lines.{collects}
use Rattle.scan_rules.specs.Queries.{Journal, Done, Cancelled as CancelledState, Spent as SpentState}
use Rattle.scan_rules.specs.Queries.{state_of, is_attached, is_cancelled, is_closed}
use Rattle.session_script.specs.declared.step.Step.{Step}
use Rattle.session_script.specs.Scripts.{query_count}
use Rattle.session_rules.specs.Ends.{has_cancel, has_prompt_cancel}
use Rattle.scan_worker.specs.Working.{AllDelivered}
use Rattle.scan_session.specs.Plans.{Plans, settles, planned}
use Rattle.scan_session.specs.Driven.{attached_in, RestsBefore}
use Rattle.scan_session.specs.declared.end.End.{End}
use Rattle.scan_session.specs.declared.end.End.TheVariants.{Answered, Refused, Cancelled, Spent}

-- What the lines of a session show, with the given number of workers.
pub record Drove (workers : ℕ) (plan : Plans) (steps : List Step) (S : Journal) : Type 0 where
  -- the planned queries are attached with their chunks, in script order, and nothing else is
  pub attached : attached_in S ≡ planned plan steps
  pub collected : (q : ℕ) → is_attached S q ≡ true → count_by (collects q) S ≡ 1
  pub delivered : AllDelivered S
  pub closed : is_closed S ≡ true
  pub cancelled : (q : ℕ) → is_cancelled S q ≡ true → has_cancel steps q ≡ true
  -- a wait line and a cancel line let no later query start before their own query has ended
  pub settled : (a : List Step) (step : Step) (b : List Step) (q : ℕ)
      → steps ≡ a ++ step ∷ b → settles q step ≡ true → is_some (plan q) ≡ true → RestsBefore S q b
  -- with no workers, and room for all queries at once, a prompt cancel takes effect
  pub pinned : workers ≡ 0 → query_count steps ≤ RUNNING_MOST → (q chunk : ℕ) (chunks : List ℕ)
      → plan q ≡ Some (chunk ∷ chunks) → has_prompt_cancel steps q ≡ true → is_cancelled S q ≡ true

-- what the end of a query shows: that it was not planned; else its final state, and a piece of all its chunks if it is
-- done
abbrev pub IsEnd : {P : Type 0} → (ℕ → List ℕ → P → Type 0) → Journal → ℕ → Option (List ℕ) → End P → Type 0
IsEnd stands S q None end = end ≡ Refused
IsEnd stands S q (Some chunks) (Answered piece) = (state_of S q ≡ Done) × stands q chunks piece
IsEnd stands S q (Some chunks) Refused = ⊥
IsEnd stands S q (Some chunks) Cancelled = state_of S q ≡ CancelledState
IsEnd stands S q (Some chunks) Spent = state_of S q ≡ SpentState

-- each query that ended out of memory is one that may be lost
pub record SpendsOnly {P : Type 0} (may : ℕ → Type 0) (ends : List (End P)) : Type 0 where
  pub each : (i : ℕ) → slice_get ends i ≡ Some Spent → may (i + 1)

-- the ends of the queries, from 1 on, by the lines of each query's board
pub record AreEnds {P : Type 0} (stands : ℕ → List ℕ → P → Type 0) (plan : Plans) (S : ℕ → Journal) (ends : List (End P))
    : Type 0 where
  pub each : (i : ℕ) (end : End P) → slice_get ends i ≡ Some end → IsEnd stands (S (i + 1)) (i + 1) (plan (i + 1)) end
