-- Lemmas about what is given: it changes by Delivers alone, each by its one task.
use Rattle.std.specs.Prelude.{◌≡◌, ℕ, ◌==◌, List, [], ◌∷◌, ◌++◌, true, false, ◌&&◌, ◌||◌}
use Rattle.std.specs.List.{list_any}
use Rattle.scan_rules.specs.declared.journal_line.JournalLine.{JournalLine}
use Rattle.scan_rules.specs.declared.journal_line.JournalLine.TheVariants.{Take, Deliver}
use Rattle.scan_rules.specs.Numbers.{has}
use Rattle.scan_rules.specs.Lines.{is_deliver, serves_with}
use Rattle.scan_rules.specs.Queries.{Journal, is_attached, is_delivered, wanted, is_given, given}
use Rattle.scan_rules.specs.Runs.{MayFollow, IsRun}

-- each chunk that is given to a query is in the query's list
abbrev pub GivenIsWanted : Type 0
GivenIsWanted =
    (ring : ℕ) (past : Journal) (q chunk : ℕ)
    → IsRun ring past → is_given past q chunk ≡ true → has (wanted past q) chunk ≡ true

-- a line that is no Deliver does not change what is given to an attached query
abbrev pub GivenByDeliversAlone : Type 0
GivenByDeliversAlone =
    (ring : ℕ) (past : Journal) (line : JournalLine) (q : ℕ)
    → IsRun ring past → MayFollow ring past line → is_attached past q ≡ true → is_deliver line ≡ false
    → given (past ++ line ∷ []) q ≡ given past q

-- a Deliver gives what was taken with its ticket, and nothing else
abbrev pub DeliverGives : Type 0
DeliverGives =
    (past : Journal) (seat ticket : ℕ) (lost : List ℕ) (q chunk : ℕ)
    → is_given (past ++ Deliver seat ticket lost ∷ []) q chunk
    ≡ (is_given past q chunk || list_any (serves_with ticket q chunk) past)

-- what was taken with a ticket is the chunk and the queries of the one Take that has it
abbrev pub TicketServes : Type 0
TicketServes =
    (ring : ℕ) (before rest : Journal) (seat ticket taking : ℕ) (queries : List ℕ) (q chunk : ℕ)
    → IsRun ring (before ++ Take seat ticket taking queries ∷ rest)
    → list_any (serves_with ticket q chunk) (before ++ Take seat ticket taking queries ∷ rest)
    ≡ ((taking == chunk) && has queries q)

-- the chunk of a task in flight was given to none of its queries
abbrev pub InFlightIsNotGiven : Type 0
InFlightIsNotGiven =
    (ring : ℕ) (before rest : Journal) (seat ticket taking : ℕ) (queries : List ℕ) (q : ℕ)
    → IsRun ring (before ++ Take seat ticket taking queries ∷ rest) → has queries q ≡ true
    → is_delivered (before ++ Take seat ticket taking queries ∷ rest) ticket ≡ false
    → is_given (before ++ Take seat ticket taking queries ∷ rest) q taking ≡ false
