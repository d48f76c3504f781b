-- A board that was called for a task and had none.
use Rattle.std.proofs.Common.{◌≡◌, ℕ, sym, ap, subst, true, false}
use Rattle.scan_rules.specs.Queries.{is_closed}
use Rattle.scan_core.specs.Answers.{AnswersTake, IsLapped}
use Rattle.scan_core.specs.declared.answers.Take.TheVariants.{Idle, Ended}
use Rattle.scan_core.specs.Boards.{BoardState}
use Rattle.scan_board.specs.Calls.{BoardSeat, Called}
use Rattle.scan_board.proofs.Holding.{seat_looks, seen_later}
use Rattle.scan_boards.specs.Tasks.{FoundNone, Inspected}

module _ {R : Type 0} (asks : R → ℕ → ℕ → Type 0) (old new : BoardSeat R) where
  inspected : (answers : BoardState R → BoardState R → Type 0) (c : Called asks answers old new) → new.seen ≡ c.past → Inspected asks old new
  inspected answers c e = record {
    later = seen_later asks answers old new c;
    same = seat_looks asks answers old new c e;
    known = c.known;
    lawful = c.lawful;
  }

  pub idle_found : Called asks (λ before after. AnswersTake old.number before Idle after) old new → FoundNone asks old new
  idle_found c = record {
    inspected = inspected _ c (ap (λ (b : BoardState R). b.past) c.answer.2);
    lapped = subst (λ (b : BoardState R). IsLapped b) (sym c.answer.2) c.answer.0;
  }

  pub ended_found : Called asks (λ before after. AnswersTake old.number before Ended after) old new → FoundNone asks old new
  ended_found c = record {
    inspected = inspected _ c (ap (λ (b : BoardState R). b.past) c.answer.2);
    lapped = subst (λ (b : BoardState R). IsLapped b) (sym c.answer.2) c.answer.0;
  }

  pub idle_open : Called asks (λ before after. AnswersTake old.number before Idle after) old new → is_closed new.seen ≡ false
  idle_open c = subst (λ (b : BoardState R). is_closed b.past ≡ false) (sym c.answer.2) c.answer.1

  pub ended_closed : Called asks (λ before after. AnswersTake old.number before Ended after) old new → is_closed new.seen ≡ true
  ended_closed c = subst (λ (b : BoardState R). is_closed b.past ≡ true) (sym c.answer.2) c.answer.1
