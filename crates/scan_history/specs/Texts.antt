-- The journal of a text: its ring on the first line, and an entry on each other line.
use Rattle.std.specs.Prelude.{ℕ, List, [], ◌∷◌, Option, None, Some, Result, Ok, Err}
use Rattle.std.specs.List.{filter_map}
use Rattle.text_rules.specs.Lines.{Line, lines_of}
use Rattle.text_rules.specs.Readings.{judged}
use Rattle.scan_rules.specs.declared.journal_line.JournalLine.{JournalLine}
use Rattle.scan_rules.specs.declared.journal.Journal.{Journal}
use Rattle.scan_history.specs.declared.fault.HistoryFault.{HistoryFault}
use Rattle.scan_history.specs.declared.fault.HistoryFault.TheVariants.{Syntax}
use Rattle.scan_history.specs.Entries.{entry_of, ring_of}

-- the fault of a line that has no value
abbrev pub fault_where : {A : Type 0} → ℕ → Option A → Option HistoryFault
fault_where number None = Some (Syntax number)
fault_where number (Some a) = None

-- the fault of a line that is no entry
abbrev pub fault_on : Line → Option HistoryFault
fault_on line = fault_where line.number (entry_of line.text)

-- the entries of all these lines, or the first line that is none
abbrev pub entries_on : List Line → Result (List JournalLine) HistoryFault
entries_on lines = judged (filter_map fault_on lines) (filter_map (λ line. entry_of line.text) lines)

-- the journal of a ring and the entries after it
abbrev pub with_ring : ℕ → Result (List JournalLine) HistoryFault → Result Journal HistoryFault
with_ring ring (Ok entries) = Ok (record { ring = ring; lines = entries })
with_ring ring (Err fault) = Err fault

-- the first line's ring, and the entries of the others
abbrev pub headed : ℕ → Option ℕ → List Line → Result Journal HistoryFault
headed number None rest = Err (Syntax number)
headed number (Some ring) rest = with_ring ring (entries_on rest)

-- the journal of these lines, or the first malformed line, which is line 1 if there is no line
abbrev pub journal_on : List Line → Result Journal HistoryFault
journal_on [] = Err (Syntax 1)
journal_on (first ∷ rest) = headed first.number (ring_of first.text) rest

-- the journal of a text
abbrev pub journal_of : List ℕ → Result Journal HistoryFault
journal_of text = journal_on (lines_of text)
