-- A replay that is checked step by step.
use Rattle.std.specs.Prelude.{◌≡◌, ℕ, ◌+◌, ◌≤◌, length}
use Rattle.scan_rules.specs.declared.journal_line.JournalLine.{JournalLine}
use Rattle.scan_rules.specs.declared.limits.TheConstants.{RING_MOST}
use Rattle.scan_rules.specs.Runs.{IsRun, MayFollow}
use Rattle.scan_core.specs.Replays.{ReplayState, IsNext, GoesOn}
use Rattle.scan_history.specs.declared.fault.HistoryFault.{HistoryFault}
use Rattle.scan_history.specs.declared.fault.HistoryFault.TheVariants.{Syntax, NotAStep}

-- the replay is at this position, and the entries before it are a run
pub record IsRightSoFar (state : ReplayState) (position : ℕ) : Type 0 where
  pub small : state.ring ≤ RING_MOST
  pub count : position ≡ length state.past
  pub run : IsRun state.ring state.past

-- the next entry may follow, and was replayed
pub record Follows (old new : ReplayState) : Type 0 where
  pub line : JournalLine
  pub may : MayFollow old.ring old.past line
  pub goes_on : GoesOn line old new

-- the next entry, which is on this line, may not follow
pub record StopsOn (state : ReplayState) (number : ℕ) : Type 0 where
  pub line : JournalLine
  pub next : IsNext line state
  pub wrong : MayFollow state.ring state.past line → ⊥
  pub line_is : number ≡ length state.past + 2

-- the fault names that line
abbrev pub StopsAt : ReplayState → HistoryFault → Type 0
StopsAt state (Syntax number) = ⊥
StopsAt state (NotAStep number) = StopsOn state number
