-- What a pair learns from a call of the boards of two classes.
use Rattle.std.specs.Prelude.{◌≡◌, ℕ, ◌⊎◌}
use Rattle.scan_core.specs.Answers.{AnswersTake}
use Rattle.scan_core.specs.Boards.{BoardState}
use Rattle.scan_core.specs.declared.answers.Take.{Take}
use Rattle.scan_core.specs.declared.answers.Take.TheVariants.{Task, Idle, Ended}
use Rattle.scan_board.specs.Calls.{BoardSeat, Called, HasTask, IsAskedFor}
use Rattle.scan_classes.specs.declared.class.ClassTake.{ClassTake}
use Rattle.scan_classes.specs.declared.class.ClassTake.TheVariants as taken
use Rattle.scan_classes.specs.declared.class.Class.{Class}
use Rattle.scan_classes.specs.Pairs.{PairSeat, other_than, seat_at}

-- the board of this class was called once, and the participant of the other is as before
pub record CalledAt {R : Type 0} (asks : R → ℕ → ℕ → Type 0) (class : Class) (answers : BoardState R → BoardState R → Type 0)
    (old new : PairSeat R) : Type 0 where
  pub here : Called asks answers (seat_at old class) (seat_at new class)
  pub other : seat_at new (other_than class) ≡ seat_at old (other_than class)

-- a take of one board had this result
abbrev pub Took : {R : Type 0} → (R → ℕ → ℕ → Type 0) → Take → BoardSeat R → BoardSeat R → Type 0
Took asks answer old new = Called asks (λ before after. AnswersTake old.number before answer after) old new

-- a take of one board had no task
abbrev pub TookNone : {R : Type 0} → (R → ℕ → ℕ → Type 0) → BoardSeat R → BoardSeat R → Type 0
TookNone asks old new = Took asks Idle old new ⊎ Took asks Ended old new

-- The result of a take of two boards. The short board is called first, and the long one only if that one had no task.
-- Otherwise the participant of the long board is as before.
abbrev pub AnswersClassTake : {R : Type 0} → (R → ℕ → ℕ → Type 0) → PairSeat R → ClassTake → PairSeat R → Type 0
AnswersClassTake asks old (taken.Short task) new =
    Took asks (Task task) old.short new.short × (new.long ≡ old.long)
AnswersClassTake asks old (taken.Long task) new =
    TookNone asks old.short new.short × Took asks (Task task) old.long new.long
AnswersClassTake asks old taken.Idle new =
    (Took asks Idle old.short new.short × TookNone asks old.long new.long)
    ⊎ (Took asks Ended old.short new.short × Took asks Idle old.long new.long)
AnswersClassTake asks old taken.Ended new =
    Took asks Ended old.short new.short × Took asks Ended old.long new.long

-- the participant of the task's board has it, and the root asks each query of the task for its chunk
abbrev pub HasClassTask : {R : Type 0} → (R → ℕ → ℕ → Type 0) → PairSeat R → ClassTake → PairSeat R → Type 0
HasClassTask asks old (taken.Short task) new = HasTask new.short task × IsAskedFor asks old.short task
HasClassTask asks old (taken.Long task) new = HasTask new.long task × IsAskedFor asks old.long task
HasClassTask asks old taken.Idle new = Unit {0}
HasClassTask asks old taken.Ended new = Unit {0}

-- the result of both boards by that of the long one, if the short one was Idle
abbrev pub after_idle : Take → ClassTake
after_idle (Task task) = taken.Long task
after_idle Idle = taken.Idle
after_idle Ended = taken.Idle

-- and if the short one was Ended
abbrev pub after_ended : Take → ClassTake
after_ended (Task task) = taken.Long task
after_ended Idle = taken.Idle
after_ended Ended = taken.Ended
