-- The ends of queries and their states in the journals of their boards.
use Rattle.std.specs.Prelude.{◌≡◌, ◌↔◌, ℕ, ◌+◌, List, Some, slice_get}
use Rattle.scan_rules.specs.Queries.{QueryState, Cancelled, Spent, state_of}
use Rattle.scan_rules.specs.declared.journal_line.JournalLine.{JournalLine}
use Rattle.session_rules.specs.declared.end.EndKind.{EndKind}
use Rattle.session_rules.specs.declared.end.EndKind.TheVariants as kind

-- the end of a query that is in this state: it is Cancelled, or Spent, exactly if the state is
pub record IsEndIn (state : QueryState) (end : EndKind) : Type 0 where
  pub cancelled : (end ≡ kind.Cancelled) ↔ (state ≡ Cancelled)
  pub spent : (end ≡ kind.Spent) ↔ (state ≡ Spent)

-- each query ended as Cancelled, or as Spent, exactly if it is in that state in the journal of its board
abbrev pub AreEndsIn : (ℕ → List JournalLine) → List EndKind → Type 0
AreEndsIn seen ends = (i : ℕ) (end : EndKind) → slice_get ends i ≡ Some end → IsEndIn (state_of (seen (i + 1)) (i + 1)) end
