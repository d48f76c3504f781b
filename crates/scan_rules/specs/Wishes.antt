-- Lemmas about what a query wants and what it was given: at its start, at each Deliver of one of its tasks, and at its
-- end.
use Rattle.std.specs.Prelude.{◌≡◌, ℕ, ◌≤◌, ◌==◌, List, [], ◌∷◌, ◌++◌, length, true, false, ◌||◌}
use Rattle.scan_rules.specs.declared.journal_line.JournalLine.TheVariants.{Attach, Take, Deliver}
use Rattle.scan_rules.specs.Numbers.{has}
use Rattle.scan_rules.specs.Queries.{Journal, wanted, given, is_attached, is_complete, is_cancelled, is_lost, is_collected, is_running}
use Rattle.scan_rules.specs.Runs.{IsRun}
use Rattle.scan_rules.specs.Scan.{lap_length}

-- a query that was attached by the last line was given nothing
abbrev pub FreshHasNothing : Type 0
FreshHasNothing =
    (ring : ℕ) (past : Journal) (seat q : ℕ) (chunks : List ℕ)
    → IsRun ring (past ++ Attach seat q chunks ∷ []) → given (past ++ Attach seat q chunks ∷ []) q ≡ []

-- the Deliver of a task adds its chunk to what its queries were given, and none of them had it
abbrev pub GivenGrows : Type 0
GivenGrows =
    (ring : ℕ) (before rest : Journal) (by ticket chunk : ℕ) (queries : List ℕ) (seat : ℕ) (lost : List ℕ) (q : ℕ)
    → IsRun ring ((before ++ Take by ticket chunk queries ∷ rest) ++ Deliver seat ticket lost ∷ [])
    → has queries q ≡ true
    → (has (given (before ++ Take by ticket chunk queries ∷ rest) q) chunk ≡ false)
    × ((c : ℕ) → has (given ((before ++ Take by ticket chunk queries ∷ rest) ++ Deliver seat ticket lost ∷ []) q) c
    ≡ (has (given (before ++ Take by ticket chunk queries ∷ rest) q) c || (chunk == c)))

-- a query that is complete was given its list
abbrev pub CompleteIsGiven : Type 0
CompleteIsGiven = (past : Journal) (q : ℕ) → is_complete past q ≡ true → given past q ≡ wanted past q

-- a query with an empty list is never cancelled and never lost: it is done at once
abbrev pub NoWishNoLoss : Type 0
NoWishNoLoss =
    (ring : ℕ) (past : Journal) (q : ℕ)
    → IsRun ring past → wanted past q ≡ [] → (is_cancelled past q ≡ false) × (is_lost past q ≡ false)

-- a query that was cancelled was attached
abbrev pub CancelledIsAttached : Type 0
CancelledIsAttached =
    (ring : ℕ) (past : Journal) (q : ℕ) → IsRun ring past → is_cancelled past q ≡ true → is_attached past q ≡ true

-- a query that was collected does not run
abbrev pub CollectedRests : Type 0
CollectedRests =
    (ring : ℕ) (past : Journal) (q : ℕ) → IsRun ring past → is_collected past q ≡ true → is_running past q ≡ false

-- if each list has filled chunks alone, one lap has at most as many takes as there are filled chunks
abbrev pub LapIsFilled : Type 0
LapIsFilled =
    (ring : ℕ) (past : Journal) (filled : List ℕ)
    → ((q chunk : ℕ) → has (wanted past q) chunk ≡ true → has filled chunk ≡ true)
    → lap_length ring past ≤ length filled
