-- One entry more is read.
use Rattle.std.specs.Prelude.{◌≡◌, List, [], ◌∷◌, ◌++◌, Some}
use Rattle.text_rules.specs.Lines.{Line}
use Rattle.scan_rules.specs.declared.journal_line.JournalLine.{JournalLine}
use Rattle.scan_history.specs.Entries.{entry_of}

-- the entry of the line is appended
pub record Adds (line : Line) (old new : List JournalLine) : Type 0 where
  pub entry : JournalLine
  pub read : entry_of line.text ≡ Some entry
  pub appended : new ≡ old ++ entry ∷ []
