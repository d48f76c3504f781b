-- Lemmas about states, and about how runs continue: by one more line, within a bound, and with the ends of queries
-- kept.
use Rattle.std.specs.Prelude.{◌≡◌, ℕ, ◌<◌, ◌≤◌, [], ◌∷◌, ◌++◌, length, true, false, ◌↔◌}
use Rattle.scan_rules.specs.declared.journal_line.JournalLine.{JournalLine}
use Rattle.scan_rules.specs.declared.limits.TheConstants.{LINES_BOUND, RING_MOST}
use Rattle.scan_rules.specs.Queries.{Journal, is_attached, is_running, is_done, QueryState, Running, Done, state_of}
use Rattle.scan_rules.specs.Runs.{MayFollow, IsRun}

-- a query runs exactly if its state is Running, and is done exactly if its state is Done
abbrev pub StatesTell : Type 0
StatesTell =
    (past : Journal) (q : ℕ)
    → ((is_running past q ≡ true) ↔ (state_of past q ≡ Running))
    × ((is_done past q ≡ true) ↔ (state_of past q ≡ Done))

-- a journal without lines is a run
abbrev pub NoLinesRun : Type 0
NoLinesRun = (ring : ℕ) → IsRun ring []

-- a prefix of a run is a run
abbrev pub FrontsRun : Type 0
FrontsRun = (ring : ℕ) (front rest : Journal) → IsRun ring (front ++ rest) → IsRun ring front

-- a run continues with each line that may follow
abbrev pub RunsGoOn : Type 0
RunsGoOn =
    (ring : ℕ) (past : Journal) (line : JournalLine)
    → IsRun ring past → MayFollow ring past line → IsRun ring (past ++ line ∷ [])

-- a run over at most 16,384 chunks has fewer than 2^23 lines
abbrev pub RunsAreShort : Type 0
RunsAreShort = (ring : ℕ) (past : Journal) → ring ≤ RING_MOST → IsRun ring past → length past < LINES_BOUND

-- the query was attached, does not run, and is in this state
pub record HasEnded (past : Journal) (q : ℕ) (state : QueryState) : Type 0 where
  pub attached : is_attached past q ≡ true
  pub stopped : is_running past q ≡ false
  pub state_is : state_of past q ≡ state

-- a query that has ended stays in its state
abbrev pub EndsStay : Type 0
EndsStay =
    (ring : ℕ) (front rest : Journal) (q : ℕ) (state : QueryState)
    → IsRun ring (front ++ rest) → HasEnded front q state → HasEnded (front ++ rest) q state
