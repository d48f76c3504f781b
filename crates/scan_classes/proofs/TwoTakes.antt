-- The result of a take of two boards is one of several boards.
use Rattle.std.proofs.Common.{◌≡◌, ℕ, ◌⊎◌, inl, inr, ⊎_elim, refl, sym, ap, ◌∙◌, subst, true, false}
use Rattle.scan_rules.specs.Queries.{is_closed}
use Rattle.scan_core.specs.Answers.{IfTask}
use Rattle.scan_core.specs.declared.answers.Take.{Take}
use Rattle.scan_core.specs.declared.answers.Take.TheVariants.{Task, Idle, Ended}
use Rattle.scan_core.specs.Boards.{BoardState, TaskState}
use Rattle.scan_board.specs.Calls.{BoardSeat, Called, HasTask, IsAskedFor}
use Rattle.scan_board.proofs.Holding.{seat_looks, seen_later}
use Rattle.scan_boards.specs.Tasks.{AnswersTaken, FoundNone, Inspected, TakesAt}
use Rattle.scan_boards.specs.declared.tasks.Taken.TheVariants as some
use Rattle.scan_boards.proofs.Inspecting.{idle_found, ended_found, idle_open, ended_closed}
use Rattle.scan_classes.specs.declared.class.Class.{Class}
use Rattle.scan_classes.specs.declared.class.Class.TheVariants.{Short, Long}
use Rattle.scan_classes.specs.ClassTakes.{HasClassTask, Took, TookNone, after_ended, after_idle}
use Rattle.scan_classes.specs.Pairs.{PairSeat, seat_at}

module _ {R : Type 0} (asks : R → ℕ → ℕ → Type 0) (old new : PairSeat R) where
  -- a long task that was taken after the short board had none
  pub held_open : (then : Take) → IfTask then (λ task. HasTask new.long task) → IfTask then (λ task. IsAskedFor asks old.long task) → HasClassTask asks old (after_idle then) new
  held_open (Task task) h a = (h, a)
  held_open Idle h a = tt
  held_open Ended h a = tt

  -- and after the short board had none and was closed
  pub held_closed : (then : Take) → IfTask then (λ task. HasTask new.long task) → IfTask then (λ task. IsAskedFor asks old.long task) → HasClassTask asks old (after_ended then) new
  held_closed (Task task) h a = (h, a)
  held_closed Idle h a = tt
  held_closed Ended h a = tt

  -- a board that had no task
  none_found : (a b : BoardSeat R) → TookNone asks a b → FoundNone asks a b
  none_found a b t = ⊎_elim (λ i. idle_found asks a b i) (λ e. ended_found asks a b e) t

  -- a task of the short board, and one of the long board
  pub short_taken : (task : TaskState) → Took asks (Task task) old.short new.short → new.long ≡ old.long → HasTask new.short task → IsAskedFor asks old.short task
      → AnswersTaken asks (seat_at old) (some.Task Short task) (seat_at new)
  short_taken task t same holds asked = record { called = t; holds = holds; asked = asked; others = each } where
    each : (p : Class) → (p ≡ Short) ⊎ (seat_at new p ≡ seat_at old p) ⊎ FoundNone asks (seat_at old p) (seat_at new p)
    each Short = inl refl
    each Long = inr (inl same)

  pub long_taken : (task : TaskState) → TookNone asks old.short new.short → Took asks (Task task) old.long new.long → HasTask new.long task → IsAskedFor asks old.long task
      → AnswersTaken asks (seat_at old) (some.Task Long task) (seat_at new)
  long_taken task none t holds asked = record { called = t; holds = holds; asked = asked; others = each } where
    each : (p : Class) → (p ≡ Long) ⊎ (seat_at new p ≡ seat_at old p) ⊎ FoundNone asks (seat_at old p) (seat_at new p)
    each Short = inr (inr (none_found old.short new.short none))
    each Long = inl refl

  -- neither board had a task
  pub both_found : TookNone asks old.short new.short → TookNone asks old.long new.long → (p : Class) → FoundNone asks (seat_at old p) (seat_at new p)
  both_found s l Short = none_found old.short new.short s
  both_found s l Long = none_found old.long new.long l

  pub idle_taken : (Took asks Idle old.short new.short × TookNone asks old.long new.long) ⊎ (Took asks Ended old.short new.short × Took asks Idle old.long new.long)
      → AnswersTaken asks (seat_at old) some.Idle (seat_at new)
  idle_taken t = ⊎_elim
      (λ a. (both_found (inl a.0) a.1, (Short, idle_open asks old.short new.short a.0)))
      (λ b. (both_found (inr b.0) (inl b.1), (Long, idle_open asks old.long new.long b.1)))
      t

  pub ended_taken : Took asks Ended old.short new.short → Took asks Ended old.long new.long → AnswersTaken asks (seat_at old) some.Ended (seat_at new)
  ended_taken s l = (both_found (inr s) (inr l), closed) where
    closed : (p : Class) → is_closed (seat_at new p).seen ≡ true
    closed Short = ended_closed asks old.short new.short s
    closed Long = ended_closed asks old.long new.long l
