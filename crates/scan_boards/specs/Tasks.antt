-- What a participant of one board or several learns from a take.
use Rattle.std.specs.Prelude.{◌≡◌, ℕ, true, false, ◌⊎◌}
use mathlib.Core.List.{IsPrefix}
use Rattle.scan_rules.specs.Lines.{seat_of}
use Rattle.scan_rules.specs.Queries.{is_closed}
use Rattle.scan_core.specs.Answers.{AnswersTake, IsLapped}
use Rattle.scan_core.specs.Boards.{IsLawful, TaskState}
use Rattle.scan_core.specs.declared.answers.Take.TheVariants as take
use Rattle.turn_lock.specs.Seats.{Knows}
use Rattle.scan_boards.specs.declared.tasks.Taken.{Taken}
use Rattle.scan_boards.specs.declared.tasks.Taken.TheVariants.{Task, Idle, Ended}
use Rattle.scan_board.specs.Calls.{BoardSeat, Called, HasTask, IsAskedFor, board_at}

-- the board was called, and the participant added no line: what it has seen grew, or is as before
pub record Inspected {R : Type 0} (asks : R → ℕ → ℕ → Type 0) (old new : BoardSeat R) : Type 0 where
  pub later : IsPrefix old.seen new.seen
  pub same : new ≡ record old { seen = new.seen }
  pub known : Knows seat_of new
  pub lawful : IsLawful asks (board_at old new.seen)

-- the board was called, and no running query had a chunk that it was not served
pub record FoundNone {R : Type 0} (asks : R → ℕ → ℕ → Type 0) (old new : BoardSeat R) : Type 0 where
  pub inspected : Inspected asks old new
  pub lapped : IsLapped (board_at old new.seen)

-- The task was taken at this place, and the participant there has it. At each other place nothing was taken: its board
-- was not called, or had no task.
pub record TakesAt {R L : Type 0} (asks : R → ℕ → ℕ → Type 0) (old : L → BoardSeat R) (place : L) (task : TaskState)
    (new : L → BoardSeat R) : Type 0 where
  pub called : Called asks (λ before after. AnswersTake (old place).number before (take.Task task) after) (old place) (new place)
  pub holds : HasTask (new place) task
  pub asked : IsAskedFor asks (old place) task
  pub others : (p : L) → (p ≡ place) ⊎ (new p ≡ old p) ⊎ FoundNone asks (old p) (new p)

-- The result of a take, between the participants before it and after it: a task; or each board was called and had none,
-- and at least one is open, or all are closed.
abbrev pub AnswersTaken : {R L : Type 0} → (R → ℕ → ℕ → Type 0) → (L → BoardSeat R) → Taken L → (L → BoardSeat R) → Type 0
AnswersTaken {R} {L} asks old (Task place task) new = TakesAt asks old place task new
AnswersTaken {R} {L} asks old Idle new =
    ((p : L) → FoundNone asks (old p) (new p)) × ((p : L) × (is_closed (new p).seen ≡ false))
AnswersTaken {R} {L} asks old Ended new =
    ((p : L) → FoundNone asks (old p) (new p)) × ((p : L) → is_closed (new p).seen ≡ true)
