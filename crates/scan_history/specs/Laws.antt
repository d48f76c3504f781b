-- Lemmas on the text of a journal.
use Rattle.std.specs.Prelude.{◌≡◌, ℕ, ◌^◌, ◌<◌, ◌≤◌, List, All, AllPairs, length, Ok}
use Rattle.scan_rules.specs.declared.journal_line.JournalLine.{JournalLine}
use Rattle.scan_rules.specs.declared.journal_line.JournalLine.TheVariants.{Attach, Take, Deliver, Cancel, Collect, Close}
use Rattle.scan_rules.specs.declared.journal.Journal.{Journal}
use Rattle.scan_rules.specs.declared.limits.TheConstants.{QUERY_MOST, RING_MOST}
use Rattle.scan_history.specs.Texts.{journal_of}
use Rattle.scan_history.specs.Printed.{journal_text}

-- a number of the text
abbrev pub IsNumber : ℕ → Type 0
IsNumber n = n < 2 ^ 32

-- the number of a query
abbrev pub IsQuery : ℕ → Type 0
IsQuery q = (1 ≤ q) × (q ≤ QUERY_MOST)

-- ascending chunks
pub record AreChunks (chunks : List ℕ) : Type 0 where
  pub each : All IsNumber chunks
  pub ascend : AllPairs (λ a b. a < b) chunks

-- ascending queries
pub record AreQueries (queries : List ℕ) : Type 0 where
  pub each : All IsQuery queries
  pub ascend : AllPairs (λ a b. a < b) queries

-- the numbers and the lists of an entry are within the text's ranges
abbrev pub IsPrintable : JournalLine → Type 0
IsPrintable (Attach seat q chunks) = IsNumber seat × IsQuery q × AreChunks chunks
IsPrintable (Take seat ticket chunk queries) =
    IsNumber seat × IsNumber ticket × IsNumber chunk × (0 < length queries) × AreQueries queries
IsPrintable (Deliver seat ticket lost) = IsNumber seat × IsNumber ticket × AreQueries lost
IsPrintable (Cancel seat q) = IsNumber seat × IsQuery q
IsPrintable (Collect seat q) = IsNumber seat × IsQuery q
IsPrintable (Close seat) = IsNumber seat

-- what is printed is read as the same journal
abbrev pub PrintedIsRead : Type 0
PrintedIsRead =
    (journal : Journal) → journal.ring ≤ RING_MOST → All IsPrintable journal.lines
    → journal_of (journal_text journal) ≡ Ok journal
