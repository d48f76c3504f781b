-- A participant of two boards, and the queries of each board.
use Rattle.std.specs.Prelude.{◌≡◌, ◌≢◌, ℕ, ◌<◌, List, Bool, true, not, nat_lt, length, if◌then◌else◌, Contains}
use Rattle.std.specs.List.{list_all}
use Rattle.atomic_table.specs.Seated.{TableId}
use Rattle.scan_rules.specs.declared.journal_line.JournalLine.{JournalLine}
use Rattle.scan_rules.specs.declared.journal_line.JournalLine.TheVariants.{Attach}
use Rattle.scan_rules.specs.Queries.{Journal}
use Rattle.scan_board.specs.Calls.{BoardSeat}
use Rattle.scan_classes.specs.declared.class.Class.{Class}
use Rattle.scan_classes.specs.declared.class.Class.TheVariants.{Short, Long}

-- A query wants more chunks than a short one may. The number 16 is here, and not taken from the code, so that the code has
-- this division and no other.
abbrev pub wants_many : List ℕ → Bool
wants_many chunks = nat_lt 16 (length chunks)

-- a query that wants more than 16 chunks is long, and each other one is short
abbrev pub class_of : List ℕ → Class
class_of chunks = if wants_many chunks then Long else Short

-- the other class
abbrev pub other_than : Class → Class
other_than Short = Long
other_than Long = Short

-- a participant of the short board, and one of the long board
pub record PairSeat (R : Type 0) : Type 0 where
  pub short : BoardSeat R
  pub long : BoardSeat R

-- the participant of the board of a class
abbrev pub seat_at : {R : Type 0} → PairSeat R → Class → BoardSeat R
seat_at pair Short = pair.short
seat_at pair Long = pair.long

-- the identities of the locks of both boards
pub record ClassTurns : Type 0 where
  pub short : TableId
  pub long : TableId

-- the identity of the lock of the board of a class
abbrev pub turn_at : ClassTurns → Class → TableId
turn_at turns Short = turns.short
turn_at turns Long = turns.long

-- the line may be in the journal of the board of a class: it attaches no query of the other class
abbrev pub may_be_at : Class → JournalLine → Bool
may_be_at Short (Attach seat q chunks) = not (wants_many chunks)
may_be_at Long (Attach seat q chunks) = wants_many chunks
may_be_at class _ = true

-- these lines attach queries of the class alone
abbrev pub AreOfClass : Class → Journal → Type 0
AreOfClass class lines = list_all (may_be_at class) lines ≡ true

-- so do the lines that a participant made, and those of each participant that ended in it
pub record KeepsClass {R : Type 0} (class : Class) (seat : BoardSeat R) : Type 0 where
  pub mine : AreOfClass class seat.mine
  pub ended : (n : ℕ) (lines : Journal) → Contains seat.ended (n, lines) → AreOfClass class lines

-- Each pair has one root, one number and one count of participants made at both boards, and its own Attaches are of the
-- board's class, as are those of the pairs that ended in it.
pub record IsPair {R : Type 0} (pair : PairSeat R) : Type 0 where
  pub root : pair.long.root ≡ pair.short.root
  pub number : pair.long.number ≡ pair.short.number
  pub made : pair.long.made ≡ pair.short.made
  pub keeps : (class : Class) → KeepsClass class (seat_at pair class)
