-- Lemmas about what a run serves: each chunk of a query's list once, and no other.
use Rattle.std.specs.Prelude.{◌≡◌, ℕ, ◌≤◌, List, ◌∷◌, ◌++◌, true, false}
use Rattle.scan_rules.specs.declared.journal_line.JournalLine.TheVariants.{Take}
use Rattle.scan_rules.specs.Numbers.{has}
use Rattle.scan_rules.specs.Queries.{Journal, wanted, times_served, is_done}
use Rattle.scan_rules.specs.Scan.{needs}
use Rattle.scan_rules.specs.Runs.{IsRun}

-- a query is served each chunk at most once
abbrev pub ServedOnce : Type 0
ServedOnce = (ring : ℕ) (past : Journal) (q chunk : ℕ) → IsRun ring past → times_served past q chunk ≤ 1

-- a query is served no chunk that is not in its list
abbrev pub ServedOwnAlone : Type 0
ServedOwnAlone =
    (ring : ℕ) (past : Journal) (q chunk : ℕ)
    → IsRun ring past → has (wanted past q) chunk ≡ false → times_served past q chunk ≡ 0

-- a query that is done was served each chunk of its list, once
abbrev pub DoneServedAll : Type 0
DoneServedAll =
    (ring : ℕ) (past : Journal) (q chunk : ℕ)
    → IsRun ring past → is_done past q ≡ true → has (wanted past q) chunk ≡ true → times_served past q chunk ≡ 1

-- a take serves each query that needs its chunk
abbrev pub TakeServesAll : Type 0
TakeServesAll =
    (ring : ℕ) (before rest : Journal) (seat ticket chunk : ℕ) (queries : List ℕ) (q : ℕ)
    → IsRun ring (before ++ Take seat ticket chunk queries ∷ rest) → needs before q chunk ≡ true → has queries q ≡ true
