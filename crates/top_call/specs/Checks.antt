-- The meaning of each step of the check of a journal.
use Rattle.std.specs.Prelude.{◌≡◌, ℕ, List, Ok}
use Rattle.sky_io.specs.Sinks.{SinkState}
use Rattle.scan_rules.specs.declared.journal.Journal.{Journal}
use Rattle.scan_history.specs.Texts.{journal_of}
use Rattle.scan_history.specs.Checked.{NamesFirstWrong}
use Rattle.top_call.specs.Journals.{IsChecked, IsFaultOf}
use Rattle.top_call.specs.Jobs.{Checks}
use Rattle.top_call.specs.Steps.{IsWritten}
use Rattle.top_call.specs.declared.outcome.Outcome.{Outcome}
use Rattle.top_call.specs.declared.outcome.Outcome.TheVariants.{Memory, BadJournal}

-- The journal is right, and the outcome is that of the writing of its line.
pub record IsCheckWritten (journal : Journal) (old new : SinkState) (outcome : Outcome) : Type 0 where
  pub checked : IsChecked journal
  pub work : IsWritten (Checks journal) old new outcome

-- the outcome of the check of a journal: an entry may not follow those before it, or the journal is right
abbrev pub IsCheckOf : Journal → SinkState → SinkState → Outcome → Type 0
IsCheckOf journal old new (BadJournal fault) = NamesFirstWrong journal fault × (new ≡ old)
IsCheckOf journal old new Memory = new ≡ old
IsCheckOf journal old new outcome = IsCheckWritten journal old new outcome

-- The text spells a journal that is right, and the outcome is that of the writing of its line.
pub record IsCheckAsRead (text : List ℕ) (old new : SinkState) (outcome : Outcome) : Type 0 where
  pub journal : Journal
  pub read : journal_of text ≡ Ok journal
  pub check : IsCheckWritten journal old new outcome

-- the outcome of the check of a text: the text has a fault, or it is read and is right
abbrev pub IsCheckOver : List ℕ → SinkState → SinkState → Outcome → Type 0
IsCheckOver text old new (BadJournal fault) = IsFaultOf (journal_of text) fault × (new ≡ old)
IsCheckOver text old new Memory = new ≡ old
IsCheckOver text old new outcome = IsCheckAsRead text old new outcome
