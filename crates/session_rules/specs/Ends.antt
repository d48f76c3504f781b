-- The ends that the queries of a script may have, given the facts about each that hold in every session.
use Rattle.std.specs.Prelude.{ℕ, ◌+◌, Bool, true, false, not, ◌&&◌, ◌||◌, List, [], ◌∷◌, length, nat_eq, nat_le}
use Rattle.std.specs.Prelude.{if◌then◌else◌}
use Rattle.std.specs.List.{list_any, take_while}
use Rattle.scan_rules.specs.declared.limits.TheConstants.{RUNNING_MOST}
use Rattle.session_script.specs.declared.step.Step.{Step}
use Rattle.session_script.specs.declared.step.Step.TheVariants as step
use Rattle.session_script.specs.Scripts.{query_count}
use Rattle.session_rules.specs.declared.end.EndKind.{EndKind}
use Rattle.session_rules.specs.declared.end.EndKind.TheVariants.{Answered, Refused, Cancelled, Spent}

-- The facts about a query that hold in every session.
pub record Judged : Type 0 where
  -- it is refused for its grammar, its binding or its radius
  pub early : Bool
  -- it is refused for a total out of range
  pub total : Bool
  -- its plan has no chunk
  pub idle : Bool

-- the query is refused
abbrev pub is_refused : Judged → Bool
is_refused j = j.early || j.total

-- the query has chunks to be scanned
abbrev pub has_work : Judged → Bool
has_work j = not j.early && not j.idle

-- the step is that of query k
abbrev pub asks : ℕ → Step → Bool
asks k (step.Query n span) = nat_eq n k
asks k (step.Wait n) = false
asks k (step.Cancel n) = false

-- the step waits for a query
abbrev pub is_wait : Step → Bool
is_wait (step.Query n span) = false
is_wait (step.Wait n) = true
is_wait (step.Cancel n) = false

-- the step waits for query k
abbrev pub waits_for : ℕ → Step → Bool
waits_for k (step.Query n span) = false
waits_for k (step.Wait n) = nat_eq n k
waits_for k (step.Cancel n) = false

-- the step cancels query k
abbrev pub cancels : ℕ → Step → Bool
cancels k (step.Query n span) = false
cancels k (step.Wait n) = false
cancels k (step.Cancel n) = nat_eq n k

-- the steps after that of query k
abbrev pub behind_query : ℕ → List Step → List Step
behind_query k [] = []
behind_query k (s ∷ ss) = if asks k s then ss else behind_query k ss

-- a cancel of query k is after it, with no wait for it between
abbrev pub has_cancel : List Step → ℕ → Bool
has_cancel steps k = list_any (cancels k) (take_while (λ s. not (waits_for k s)) (behind_query k steps))

-- a cancel of query k is after it, with no wait for any query between
abbrev pub has_prompt_cancel : List Step → ℕ → Bool
has_prompt_cancel steps k = list_any (cancels k) (take_while (λ s. not (is_wait s)) (behind_query k steps))

-- query k has to end cancelled: there are no workers and no more queries than may run at once, so no chunk of it is scanned
-- before its cancel
abbrev pub must_be_cancelled : ℕ → List Step → ℕ → Judged → Bool
must_be_cancelled workers steps k j =
    nat_eq workers 0 && nat_le (query_count steps) RUNNING_MOST && has_work j && has_prompt_cancel steps k

-- query k may have this end: an early refusal is always reported; a query is cancelled only by its own cancel, and
-- spent only if it has chunks to scan; that an allocation failed is not stated
abbrev pub may_end : ℕ → List Step → ℕ → Judged → EndKind → Bool
may_end workers steps k j Answered = not (is_refused j) && not (must_be_cancelled workers steps k j)
may_end workers steps k j Refused = is_refused j && not (must_be_cancelled workers steps k j)
may_end workers steps k j Cancelled = has_work j && has_cancel steps k
may_end workers steps k j Spent = has_work j && not (must_be_cancelled workers steps k j)

-- the queries from number k on may have these ends, one by one
abbrev pub may_end_from : ℕ → List Step → ℕ → List Judged → List EndKind → Bool
may_end_from workers steps k [] [] = true
may_end_from workers steps k (j ∷ js) (e ∷ es) = may_end workers steps k j e && may_end_from workers steps (k + 1) js es
may_end_from workers steps k _ _ = false

-- the ends fit the script with the given number of workers: each query has its facts and one end, and may have that end
abbrev pub fit : ℕ → List Step → List Judged → List EndKind → Bool
fit workers steps judged ends =
    nat_eq (length judged) (query_count steps) && may_end_from workers steps 1 judged ends
