-- What the check of a journal returns.
use Rattle.std.specs.Prelude.{◌≡◌, ℕ, ◌+◌, ◌≤◌, List, ◌∷◌, ◌++◌, length, count_by, true, false}
use Rattle.scan_rules.specs.declared.journal_line.JournalLine.{JournalLine}
use Rattle.scan_rules.specs.declared.journal.Journal.{Journal}
use Rattle.scan_rules.specs.Lines.{is_attach, takes}
use Rattle.scan_rules.specs.Numbers.{has}
use Rattle.scan_rules.specs.Queries.{wanted, times_served, is_done}
use Rattle.scan_rules.specs.Runs.{IsRun, MayFollow}
use Rattle.scan_history.specs.declared.fault.HistoryFault.{HistoryFault}
use Rattle.scan_history.specs.declared.fault.HistoryFault.TheVariants.{Syntax, NotAStep}
use Rattle.scan_history.specs.declared.tally.Tally.{Tally}

-- a journal is right: each of its entries may follow those before it
abbrev pub IsRight : Journal → Type 0
IsRight journal = IsRun journal.ring journal.lines

-- the number of entries, of Attaches and of Takes
abbrev pub tally_of : List JournalLine → Tally
tally_of lines =
    record { entries = length lines; queries = count_by is_attach lines; takes = count_by takes lines }

-- each query is served each chunk at most once, only chunks of its list, and each of them once if it is done
pub record ServesRightly (lines : List JournalLine) : Type 0 where
  pub once : (q chunk : ℕ) → times_served lines q chunk ≤ 1
  pub own : (q chunk : ℕ) → has (wanted lines q) chunk ≡ false → times_served lines q chunk ≡ 0
  pub whole : (q chunk : ℕ) → is_done lines q ≡ true → has (wanted lines q) chunk ≡ true → times_served lines q chunk ≡ 1

-- the entry on this line is the first one that may not follow those before it; the first entry is on line 2
pub record IsFirstWrong (journal : Journal) (line : ℕ) : Type 0 where
  pub before : List JournalLine
  pub entry : JournalLine
  pub rest : List JournalLine
  pub cut : journal.lines ≡ before ++ entry ∷ rest
  pub right : IsRun journal.ring before
  pub wrong : MayFollow journal.ring before entry → ⊥
  pub line_is : line ≡ length before + 2

-- the fault names that line
abbrev pub NamesFirstWrong : Journal → HistoryFault → Type 0
NamesFirstWrong journal (Syntax line) = ⊥
NamesFirstWrong journal (NotAStep line) = IsFirstWrong journal line
