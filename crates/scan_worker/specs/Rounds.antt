-- What a round shows of the boards at which a worker takes tasks.
use Rattle.std.specs.Prelude.{◌≡◌, ℕ, List, Option, ◌⊎◌}
use Rattle.scan_rules.specs.Lines.{seat_of}
use Rattle.scan_core.specs.Answers.{AnswersTake}
use Rattle.scan_core.specs.Boards.{IsLawful, TaskState}
use Rattle.scan_core.specs.declared.answers.Take.TheVariants as take
use Rattle.scan_core.specs.Delivering.{DeliversTask, PiecesFit}
use Rattle.turn_lock.specs.Seats.{Knows}
use Rattle.scan_board.specs.Calls.{BoardSeat, Called, board_at}
use Rattle.scan_worker.specs.Missing.{MissesRefused}
use Rattle.scan_worker.specs.declared.rounds.Round.{Round}
use Rattle.scan_worker.specs.declared.rounds.Round.TheVariants.{Worked, Idle, Ended}
use Rattle.scan_worker.specs.Working.{EndsRound, ServesOne}

-- the participant has called the board: it knows its own lines, and what it has seen is a run over the root
pub record Observed {R : Type 0} (asks : R → ℕ → ℕ → Type 0) (old new : BoardSeat R) : Type 0 where
  pub known : Knows seat_of new
  pub lawful : IsLawful asks (board_at old new.seen)

-- the participant at one place served a task, and those at the other places made no line
pub record ServesOneAt {R L : Type 0} (asks : R → ℕ → ℕ → Type 0) (old new : L → BoardSeat R) : Type 0 where
  pub place : L
  pub serves : ServesOne (old place) (new place)
  pub observed : Observed asks (old place) (new place)
  pub others : (p : L) → (p ≡ place) ⊎ ((new p).mine ≡ (old p).mine)

-- each board was called and had nothing left to take, and no line was made
pub record FindsNone {R L : Type 0} (asks : R → ℕ → ℕ → Type 0) (old new : L → BoardSeat R) : Type 0 where
  pub observed : (p : L) → Observed asks (old p) (new p)
  pub ends : (p : L) → EndsRound Idle (old p) (new p) ⊎ EndsRound Ended (old p) (new p)

-- the outcome of a round at some boards: a task of one was taken and delivered; or no board had anything left to take,
-- and one of them is open, or all are closed
abbrev pub EndsRounds : {R L : Type 0} → (R → ℕ → ℕ → Type 0) → Round → (L → BoardSeat R) → (L → BoardSeat R) → Type 0
EndsRounds {R} {L} asks Worked old new = ServesOneAt asks old new
EndsRounds {R} {L} asks Idle old new = FindsNone asks old new × ((p : L) × EndsRound Idle (old p) (new p))
EndsRounds {R} {L} asks Ended old new = FindsNone asks old new × ((p : L) → EndsRound Ended (old p) (new p))

-- The task is delivered with the pieces that were made of it. Each represents the task's chunk and its query, and one is
-- missing only if the engine refused it, or had no memory for their list.
pub record HandsOn {R P : Type 0} (refuses : P → P → Type 0) (asks : R → ℕ → ℕ → Type 0) (stands : ℕ → List ℕ → P → Type 0)
    (refused : ℕ → ℕ → Type 0) (unlisted : TaskState → Type 0) (task : TaskState) (old new : BoardSeat R) : Type 0 where
  pub entries : List (Option P)
  pub fit : PiecesFit stands task.chunk task.queries entries
  pub missing : MissesRefused refused unlisted task entries
  pub called : Called asks (DeliversTask refuses old.number task entries) old new

-- at one of the boards a task was taken, and delivered with the pieces that were made of it
pub record HandsOnOne {R L P : Type 0} (refuses : P → P → Type 0) (asks : R → ℕ → ℕ → Type 0)
    (stands : ℕ → List ℕ → P → Type 0) (refused : ℕ → ℕ → Type 0) (unlisted : TaskState → Type 0) (old new : L → BoardSeat R)
    : Type 0 where
  pub place : L
  pub task : TaskState
  pub mid : BoardSeat R
  pub taken : Called asks (λ was is. AnswersTake (old place).number was (take.Task task) is) (old place) mid
  pub handed : HandsOn refuses asks stands refused unlisted task mid (new place)

-- this holds if a chunk was taken
abbrev pub IfWorked : Round → Type 0 → Type 0
IfWorked Worked holds = holds
IfWorked _ holds = Unit {0}
