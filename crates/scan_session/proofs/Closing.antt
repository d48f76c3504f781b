-- The close of the board, and the joins of the workers' seats.
use Rattle.std.proofs.Common.{◌≡◌, ℕ, List, [], ◌∷◌, ◌++◌, Bool, true, false, Option, ◌⊎◌, inl, inr, ⊎_elim, refl, sym, ◌∙◌, ap, subst, append-nil}
use Rattle.std.specs.List.{list_any}
use Rattle.std.proofs.lemmas.Bool.{both_ways, cases_Bool}
use mathlib.Core.List.{IsPrefix}
use Rattle.scan_rules.specs.declared.journal_line.JournalLine.TheVariants.{Close}
use Rattle.scan_rules.specs.Lines.{closes}
use Rattle.scan_rules.specs.Queries.{Journal, QueryState, is_closed}
use Rattle.scan_rules.proofs.Lists.{any_there, any_stays}
use Rattle.session_script.specs.declared.step.Step.{Step}
use Rattle.scan_board.specs.Calls.{BoardSeat, Called, AnswersClose}
use Rattle.scan_session.specs.Plans.{AllRunAtOnce, Plans}
use Rattle.scan_session.specs.Driven.{has_foreign, is_foreign, Driving}
use Rattle.scan_session.specs.Places.{only, HasRoom, DrivingAll, SomeForeign}
use Rattle.scan_session.specs.Seats.{of_seat, IsCzar, Stays}
use Rattle.scan_session.specs.Goes.{Goes}
use Rattle.scan_session.specs.Crews.{Closed, Leaves}
use Rattle.scan_session.specs.declared.end.Outcome.{Outcome}
use Rattle.scan_session.specs.declared.end.Outcome.TheVariants.{Went, Memory, Odd}
use Rattle.scan_session.proofs.Calling.{AddsCalm, at_call, odd_closed, stays_called}
use Rattle.scan_session.proofs.Placing.{clean_before, driven_weaken}

-- what another participant did stays, as the lines that were seen grow
pub foreign_later : {R L : Type 0} (old new : L → BoardSeat R) → ((p : L) → IsPrefix (old p).seen (new p).seen) → SomeForeign old → SomeForeign new
foreign_later old new later f =
    let l = later f.0 in
    (f.0, subst (λ (j : Journal). has_foreign j ≡ true) l.1 (any_stays is_foreign (old f.0).seen l.0 f.1))

module _ {R : Type 0} (asks : R → ℕ → ℕ → Type 0) (old new : BoardSeat R) where
  -- the line of a close, or none where the board was closed
  close_adds : (c : Called asks (AnswersClose old.number) old new) → (new.seen ≡ c.past ++ Close old.number ∷ []) ⊎ ((new.seen ≡ c.past) × (is_closed c.past ≡ true))
  close_adds c = ⊎_elim
      (λ t. inr (ap (λ b. b.past) (c.answer.second t), t))
      (λ f. inl (ap (λ b. b.past) (c.answer.first f)))
      (cases_Bool (is_closed c.past))

  calm : (c : Called asks (AnswersClose old.number) old new) → AddsCalm c.past new.seen
  calm c = ⊎_elim (λ l. inr (Close old.number, record { no_take = λ t. refl; no_loss = λ q. refl }, l)) (λ s. inl s.0) (close_adds c)

  pub stays_closed : {may : ℕ → Type 0} → IsCzar asks old → Called asks (AnswersClose old.number) old new → Stays asks may old new
  stays_closed z c = stays_called asks old new z c (calm c)

  pub is_closed_now : Called asks (AnswersClose old.number) old new → is_closed new.seen ≡ true
  is_closed_now c = ⊎_elim
      (λ l. ap (list_any closes) l ∙ any_there closes c.past (Close old.number) [] refl)
      (λ s. ap (list_any closes) s.0 ∙ s.1)
      (close_adds c)

  -- the lines of the board, if no other participant attached, cancelled, collected or closed
  pub closed_at : {Room : Type 0} (plan : Plans) (steps : List Step) (ends : ℕ → Option QueryState) → IsCzar asks old → Called asks (AnswersClose old.number) old new → Driving Room plan steps old.seen ends → has_foreign new.seen ≡ false → Closed Room plan steps new.seen ends
  closed_at plan steps ends z c g f = ⊎_elim
      (λ l. let here : new.seen ≡ c.past ++ Close 0 ∷ [] = l ∙ ap (λ n. c.past ++ Close n ∷ []) z.first in
      record {
        before = c.past;
        rest = [];
        is = here ∙ sym (append-nil _);
        own = ap (of_seat 0) here;
        drives = at_call asks plan steps ends old new z c (calm c) g;
      })
      (λ s. absurd (both_ways _ f (odd_closed asks plan steps ends old new z c s.0 s.1 g)))
      (close_adds c)

module _ {R L : Type 0} (asks : R → ℕ → ℕ → Type 0) (has : L → ℕ → Bool) (old new : L → BoardSeat R) (z : (p : L) → IsCzar asks (old p)) (called : (p : L) → Called asks (AnswersClose (old p).number) (old p) (new p)) where
  pub stays_all : (may : ℕ → Type 0) (p : L) → Stays asks may (old p) (new p)
  stays_all may p = stays_closed asks (old p) (new p) (z p) (called p)

  pub leaves_closed : (room : Type 0) (plan : Plans) (steps : List Step) (ends : ℕ → Option QueryState) (r : Outcome) → Goes (DrivingAll has plan steps old ends) room old r → Leaves has plan steps new ends r
  leaves_closed room plan steps ends Memory g = tt
  leaves_closed room plan steps ends Odd g = foreign_later old new (λ p. (stays_all (λ q. Unit {0}) p).later) g
  leaves_closed room plan steps ends Went g = λ clean p.
      let room : AllRunAtOnce plan → HasRoom plan old = λ low. record { low = low; clean = clean_before old new (λ o. (stays_all (λ q. Unit {0}) o).later) clean } in
      closed_at asks (old p) (new p) (only (has p) plan) steps (only (has p) ends) (z p) (called p) (λ f. driven_weaken (only (has p) plan) steps (old p).seen (only (has p) ends) room (g p f)) (clean.each p)
