-- Which text of a journal is accepted, and what is written for it.
use Rattle.std.specs.Prelude.{◌≡◌, ℕ, ◌≤◌, List, length, codes, Result, Ok, Err}
use Rattle.text_rules.specs.declared.limits.TheConstants.{TEXT_MOST}
use Rattle.scan_rules.specs.declared.journal.Journal.{Journal}
use Rattle.scan_history.specs.Texts.{journal_of}
use Rattle.scan_history.specs.Checked.{IsRight, NamesFirstWrong, ServesRightly}
use Rattle.scan_history.specs.declared.fault.HistoryFault.{HistoryFault}
use Rattle.scan_history.specs.declared.tally.Tally.{Tally}
use Rattle.top_call.specs.FaultLines.{numbered}

-- The text is accepted as this journal: it is read as it, and the journal is right.
pub record IsJournalOf (text : List ℕ) (journal : Journal) : Type 0 where
  pub short : length text ≤ TEXT_MOST
  pub read : journal_of text ≡ Ok journal
  pub right : IsRight journal

-- the fault of a text that is read as this: its first malformed line, and otherwise its first entry that may not follow
-- those before it
abbrev pub IsFaultOf : Result Journal HistoryFault → HistoryFault → Type 0
IsFaultOf (Err found) fault = fault ≡ found
IsFaultOf (Ok journal) fault = NamesFirstWrong journal fault

-- the text is within its limit, and has this first fault
abbrev pub IsJournalFault : List ℕ → HistoryFault → Type 0
IsJournalFault text fault = (length text ≤ TEXT_MOST) × IsFaultOf (journal_of text) fault

-- The journal is right, so each query is served each chunk at most once, chunks of its list alone, and each of them if it is
-- done.
pub record IsChecked (journal : Journal) : Type 0 where
  pub right : IsRight journal
  pub serves : ServesRightly journal.lines

-- the line of a journal with this tally
abbrev pub tally_line : Tally → List ℕ
tally_line tally =
    numbered (codes "ok: ") tally.entries (numbered (codes " entries, ") tally.queries
    (numbered (codes " queries, ") tally.takes (codes " takes\n")))
