-- What the czar leaves when it has closed each board, and what is known once the workers' participants are joined.
use Rattle.std.specs.Prelude.{◌≡◌, ℕ, ◌+◌, ◌-◌, ◌<◌, ◌≤◌, ◌^◌, List, [], ◌∷◌, ◌++◌, Bool, true, Contains, Option, Some}
use Rattle.std.specs.List.{list_all}
use mathlib.Core.List.{IsPrefix}
use Rattle.atomic_table.specs.Seated.{TableId}
use Rattle.scan_rules.specs.declared.journal_line.JournalLine.TheVariants.{Close}
use Rattle.scan_rules.specs.Lines.{seat_of}
use Rattle.scan_rules.specs.Queries.{Journal, QueryState, state_of, is_attached, is_closed}
use Rattle.scan_core.specs.Boards.{IsLawful}
use Rattle.turn_lock.specs.Seats.{Knows}
use Rattle.scan_board.specs.Calls.{BoardSeat, board_at}
use Rattle.scan_worker.specs.Missing.{LosesOnly}
use Rattle.scan_worker.specs.Working.{is_work, AllDelivered, Worked}
use Rattle.session_script.specs.declared.step.Step.{Step}
use Rattle.scan_session.specs.Plans.{Plans, AllRunAtOnce}
use Rattle.scan_session.specs.Driven.{Driving}
use Rattle.scan_session.specs.Drove.{Drove}
use Rattle.scan_session.specs.Places.{AreClean, SomeForeign, only}
use Rattle.scan_session.specs.Seats.{of_seat}
use Rattle.scan_session.specs.declared.end.Outcome.{Outcome}
use Rattle.scan_session.specs.declared.end.Outcome.TheVariants.{Went, Memory, Odd}

-- the czar ran these steps and closed the board; the lines after that are not its own
pub record Closed (Room : Type 0) (plan : Plans) (steps : List Step) (seen : Journal) (ends : ℕ → Option QueryState) : Type 0 where
  pub before : Journal
  pub rest : Journal
  pub is : seen ≡ (before ++ Close 0 ∷ []) ++ rest
  pub own : of_seat 0 seen ≡ of_seat 0 (before ++ Close 0 ∷ [])
  pub drives : Driving Room plan steps before ends

-- What the czar's part leaves on the lines that were seen of each board, by how it ended. If it went, it ran all steps and
-- closed each board, if no other participant did what only it does.
abbrev pub Leaves : {R L : Type 0} → (L → ℕ → Bool) → Plans → List Step → (L → BoardSeat R) → (ℕ → Option QueryState) → Outcome → Type 0
Leaves {R} {L} has plan steps seats ends Went = AreClean seats
    → (p : L) → Closed (AllRunAtOnce plan) (only (has p) plan) steps (seats p).seen (only (has p) ends)
Leaves has plan steps seats ends Memory = Unit {0}
Leaves has plan steps seats ends Odd = SomeForeign seats

-- a participant that was joined: its number, and its lines, which are work, all delivered
pub record KeepsWork (ended : List (ℕ × Journal)) (number : ℕ) : Type 0 where
  pub lines : Journal
  pub kept : Contains ended (number, lines)
  pub work : list_all is_work lines ≡ true
  pub delivered : AllDelivered lines

-- The czar's participant, once the board is closed and the participants that were split off are joined again.
pub record Manned {R : Type 0} (asks : R → ℕ → ℕ → Type 0) (old new : BoardSeat R) : Type 0 where
  pub first : new.number ≡ 0
  pub turn : new.turn ≡ old.turn
  pub root : new.root ≡ old.root
  pub made : old.made ≤ new.made
  pub later : IsPrefix old.seen new.seen
  pub known : Knows seat_of new
  pub lawful : IsLawful asks (board_at new new.seen)
  pub delivered : AllDelivered new.mine
  pub closed : is_closed new.seen ≡ true
  pub crew : (n : ℕ) → old.made ≤ n → n < new.made → KeepsWork new.ended n

-- a participant that was joined: the lines that it made lose only queries that may be lost
pub record KeepsCauses (may : ℕ → Type 0) (ended : List (ℕ × Journal)) (number : ℕ) : Type 0 where
  pub lines : Journal
  pub kept : Contains ended (number, lines)
  pub lost : LosesOnly may [] lines

-- For each worker one participant more of the board was made. What the czar's and those participants lost may be lost.
pub record MannedBy {R : Type 0} (asks : R → ℕ → ℕ → Type 0) (may : ℕ → Type 0) (workers : ℕ) (old new : BoardSeat R) : Type 0 where
  pub manned : Manned asks old new
  pub made : new.made ≡ old.made + workers
  pub lost : LosesOnly may old.mine new.mine
  pub causes : (n : ℕ) → old.made ≤ n → n < new.made → KeepsCauses may new.ended n

-- one participant more of the board can be made for each worker: its number is not 0, and fits in 32 bits
pub record MaySplit {R : Type 0} (workers : ℕ) (seat : BoardSeat R) : Type 0 where
  pub from_1 : 1 ≤ seat.made
  pub room : seat.made + workers < 2 ^ 32 - 1

-- the participants of a worker: one of each board, under its lock, with the root of the engine; each has delivered what it
-- took
pub record AreWorkers {R L : Type 0} (locks : L → TableId) (root : R) (seats : L → BoardSeat R) : Type 0 where
  pub own : (p : L) → (seats p).turn ≡ locks p
  pub engine : (p : L) → root ≡ (seats p).root.root
  pub delivered : (p : L) → AllDelivered (seats p).mine

-- a worker's participant of a board, once the worker has ended
pub record Served {R : Type 0} (asks : R → ℕ → ℕ → Type 0) (may : ℕ → Type 0) (old new : BoardSeat R) : Type 0 where
  pub worked : Worked old new
  pub lost : LosesOnly may old.mine new.mine
  pub known : Knows seat_of new
  pub lawful : IsLawful asks (board_at old new.seen)

-- the end of each attached query is known, and is its final state
abbrev pub TellsStates : Journal → (ℕ → Option QueryState) → Type 0
TellsStates seen ends = (q : ℕ) → is_attached seen q ≡ true → ends q ≡ Some (state_of seen q)

-- what the session promises in the end, at each board
abbrev pub Promises : {R L : Type 0} → ℕ → (L → ℕ → Bool) → Plans → List Step → (L → BoardSeat R) → (ℕ → Option QueryState) → Outcome → Type 0
Promises {R} {L} workers has plan steps seats ends Went =
    (p : L) → Drove workers (only (has p) plan) steps (seats p).seen × TellsStates (seats p).seen (only (has p) ends)
Promises workers has plan steps seats ends Memory = Unit {0}
Promises workers has plan steps seats ends Odd = ⊥
