-- What a round makes of the participants at all boards.
use Rattle.std.proofs.Common.{◌≡◌, ℕ, [], true, false, ◌⊎◌, inl, inr, ⊎_elim, refl, sym, ap, ◌∙◌, subst, append-nil, All}
use Rattle.std.proofs.lemmas.Bool.{cases_Bool}
use Rattle.scan_rules.specs.Queries.{Journal, is_closed}
use Rattle.scan_core.specs.Boards.{IsLawful, TaskState}
use Rattle.scan_board.specs.Calls.{BoardSeat, Called, IsAskedFor}
use Rattle.scan_boards.specs.Tasks.{FoundNone, Inspected, TakesAt}
use Rattle.scan_worker.specs.declared.rounds.Round.{Round}
use Rattle.scan_worker.specs.declared.rounds.Round.TheVariants.{Worked as WorkedRound, Idle as IdleRound, Ended as EndedRound}
use Rattle.scan_worker.specs.Missing.{LosesOnly}
use Rattle.scan_worker.specs.Working.{AllDelivered, DeliversIt, EndsRound, Worked}
use Rattle.scan_worker.specs.Rounds.{EndsRounds, FindsNone, Observed, ServesOneAt}
use Rattle.scan_worker.proofs.Losing.{loses_same}
use Rattle.scan_worker.proofs.Working.{served_one, worked_none, worked_task}

-- a board that was called and had none: the seat has seen more, and worked no less
pub inspected_works : {R : Type 0} (asks : R → ℕ → ℕ → Type 0) (old new : BoardSeat R) → AllDelivered old.mine → Inspected asks old new → Worked old new
inspected_works {R} asks old new h k = record {
  later = k.later;
  more = [];
  work = refl;
  same = k.same ∙ ap (λ (l : Journal). record old { seen = new.seen; mine = l }) (sym (append-nil old.mine));
  delivered = subst AllDelivered (sym (ap (λ (s : BoardSeat R). s.mine) k.same)) h;
}

-- and loses nothing more
pub inspected_loses : {R : Type 0} (asks : R → ℕ → ℕ → Type 0) (may : ℕ → Type 0) (old new : BoardSeat R) → Inspected asks old new → LosesOnly may old.mine new.mine
inspected_loses {R} asks may old new k = loses_same may old.mine new.mine (ap (λ (s : BoardSeat R). s.mine) k.same)

pub inspected_observed : {R : Type 0} (asks : R → ℕ → ℕ → Type 0) (old new : BoardSeat R) → Inspected asks old new → Observed asks old new
inspected_observed asks old new k = record { known = k.known; lawful = k.lawful }

-- a board that had none, by whether it is closed
module _ {R : Type 0} (asks : R → ℕ → ℕ → Type 0) (old new : BoardSeat R) (k : FoundNone asks old new) where
  no_line : new.mine ≡ old.mine
  no_line = ap (λ (s : BoardSeat R). s.mine) k.inspected.same

  pub idle_if_open : is_closed new.seen ≡ false → EndsRound IdleRound old new
  idle_if_open open_still = (k.lapped, open_still, no_line)

  pub ended_if_closed : is_closed new.seen ≡ true → EndsRound EndedRound old new
  ended_if_closed closed = (k.lapped, closed, no_line)

  ends_so : EndsRound IdleRound old new ⊎ EndsRound EndedRound old new
  ends_so = ⊎_elim (λ t. inr (ended_if_closed t)) (λ f. inl (idle_if_open f)) (cases_Bool (is_closed new.seen))

-- so all of them, in a round that makes no line
pub finds_none : {R L : Type 0} (asks : R → ℕ → ℕ → Type 0) (old new : L → BoardSeat R) → ((p : L) → FoundNone asks (old p) (new p)) → FindsNone asks old new
finds_none asks old new k = record {
  observed = λ p. inspected_observed asks (old p) (new p) (k p).inspected;
  ends = λ p. ends_so asks (old p) (new p) (k p);
}

-- what a round makes of the seats at all places, where a task was taken at one of them and delivered there
module _ {R L : Type 0} (asks : R → ℕ → ℕ → Type 0) (old mid new : L → BoardSeat R) (place : L) (task : TaskState)
    (t : TakesAt asks old place task mid) (d : Called asks (DeliversIt (mid place).number task) (mid place) (new place))
    (beside : (p : L) → (p ≡ place) ⊎ (new p ≡ mid p)) where
  -- at the task's place, at one whose board was not called, and at one that had none
  at_each : (Holds : L → Type 0) → Holds place → ((p : L) → new p ≡ old p → Holds p) → ((p : L) → (s : BoardSeat R) → new p ≡ s → FoundNone asks (old p) s → Holds p) → (p : L) → Holds p
  at_each Holds here same found p = ⊎_elim
      (λ e. subst Holds (sym e) here)
      (λ r. ⊎_elim
      (λ e. subst Holds (sym e) here)
      (λ n. ⊎_elim (λ e. same p (n ∙ e)) (λ f. found p (mid p) n f) r)
      (beside p))
      (t.others p)

  pub worked_at : ((p : L) → AllDelivered (old p).mine) → (p : L) → Worked (old p) (new p)
  worked_at h = at_each (λ p. Worked (old p) (new p))
      (worked_task asks (old place) (mid place) (new place) task (h place) t.called d)
      (λ p e. subst (Worked (old p)) (sym e) (worked_none (old p) (h p)))
      (λ p s e f. subst (Worked (old p)) (sym e) (inspected_works asks (old p) s (h p) f.inspected))

  observed_here : Observed asks (old place) (new place)
  observed_here = record {
    known = d.known;
    lawful = subst (λ r. IsLawful asks (record { root = r.root; ring = r.ring; past = (new place).seen })) (ap (λ (s : BoardSeat R). s.root) t.called.same) d.lawful;
  }

  pub served_at : ServesOneAt asks old new
  served_at = record {
    place = place;
    serves = served_one asks (old place) (mid place) (new place) task t.called d;
    observed = observed_here;
    others = at_each (λ p. (p ≡ place) ⊎ ((new p).mine ≡ (old p).mine))
        (inl refl)
        (λ p e. inr (ap (λ (s : BoardSeat R). s.mine) e))
        (λ p s e f. inr (ap (λ (z : BoardSeat R). z.mine) e ∙ ap (λ (z : BoardSeat R). z.mine) f.inspected.same));
  }

  pub observed_at : (p : L) → (new p ≡ old p) ⊎ Observed asks (old p) (new p)
  observed_at = at_each (λ p. (new p ≡ old p) ⊎ Observed asks (old p) (new p))
      (inr observed_here)
      (λ p e. inl e)
      (λ p s e f. inr (subst (Observed asks (old p)) (sym e) (inspected_observed asks (old p) s f.inspected)))

  pub lost_at : (may : ℕ → Type 0) → LosesOnly may (old place).mine (new place).mine → (p : L) → LosesOnly may (old p).mine (new p).mine
  lost_at may here = at_each (λ p. LosesOnly may (old p).mine (new p).mine)
      here
      (λ p e. loses_same may (old p).mine (new p).mine (ap (λ (s : BoardSeat R). s.mine) e))
      (λ p s e f. subst (λ (s : BoardSeat R). LosesOnly may (old p).mine s.mine) (sym e) (inspected_loses asks may (old p) s f.inspected))

-- a take leaves the turns and the roots
pub taken_turn : {R L : Type 0} (asks : R → ℕ → ℕ → Type 0) (old mid : L → BoardSeat R) (place : L) (task : TaskState) → TakesAt asks old place task mid
    → (p : L) → (mid p).turn ≡ (old p).turn
taken_turn {R} asks old mid place task t p = ⊎_elim
    (λ e. subst (λ q. (mid q).turn ≡ (old q).turn) (sym e) (ap (λ (s : BoardSeat R). s.turn) t.called.same))
    (λ r. ⊎_elim (λ e. ap (λ (s : BoardSeat R). s.turn) e) (λ f. ap (λ (s : BoardSeat R). s.turn) f.inspected.same) r)
    (t.others p)

pub taken_root : {R L : Type 0} (asks : R → ℕ → ℕ → Type 0) (old mid : L → BoardSeat R) (place : L) (task : TaskState) → TakesAt asks old place task mid
    → (mid place).root ≡ (old place).root
taken_root {R} asks old mid place task t = ap (λ (s : BoardSeat R). s.root) t.called.same

-- the task's queries are asked its chunk of the seat that took it
pub taken_asked : {R L : Type 0} (asks : R → ℕ → ℕ → Type 0) (old mid : L → BoardSeat R) (place : L) (task : TaskState) → TakesAt asks old place task mid
    → IsAskedFor asks (mid place) task
taken_asked asks old mid place task t = subst (λ r. All (λ q. asks r.root q task.chunk) task.queries) (sym (taken_root asks old mid place task t)) t.asked

-- a participant of one board has called it in each round
pub observed_by_one : {R : Type 0} (asks : R → ℕ → ℕ → Type 0) (round : Round) (old new : BoardSeat R)
    → EndsRounds {R = R} {L = Unit {0}} asks round (λ p. old) (λ p. new) → Observed asks old new
observed_by_one asks WorkedRound old new e = e.observed
observed_by_one asks IdleRound old new e = e.0.observed tt
observed_by_one asks EndedRound old new e = e.0.observed tt
