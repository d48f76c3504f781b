-- Lemmas for callers of a board that read its lines: what is left to take, and what a query wants.
use Rattle.std.specs.Prelude.{◌≡◌, ℕ, List, ◌∷◌, ◌++◌, false, None}
use Rattle.scan_rules.specs.declared.journal_line.JournalLine.TheVariants.{Attach}
use Rattle.scan_rules.specs.Queries.{Journal, wanted}
use Rattle.scan_rules.specs.Scan.{needs, next_chunk}
use Rattle.scan_rules.specs.Runs.{IsRun}

-- if no chunk is next, no query has a chunk left that it was not served
abbrev pub NothingIsNeeded : Type 0
NothingIsNeeded =
    (ring : ℕ) (past : Journal) (q chunk : ℕ)
    → IsRun ring past → next_chunk ring past ≡ None → needs past q chunk ≡ false

-- a query wants the chunks that it was attached with, whatever came before and after
abbrev pub WantedIsAttached : Type 0
WantedIsAttached =
    (ring : ℕ) (before rest : Journal) (seat q : ℕ) (chunks : List ℕ)
    → IsRun ring (before ++ Attach seat q chunks ∷ rest)
    → wanted (before ++ Attach seat q chunks ∷ rest) q ≡ chunks
