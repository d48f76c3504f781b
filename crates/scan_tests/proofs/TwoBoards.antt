-- A call of two boards leaves the locks and the rings of a pair.
use Rattle.std.proofs.Common.{◌≡◌, ℕ, ◌<◌, List, All, ap, sym, subst, ⊎_elim}
use Rattle.scan_core.specs.Boards.{BoardState}
use Rattle.scan_core.specs.declared.answers.Take.{Take}
use Rattle.scan_core.specs.declared.answers.Take.TheVariants.{Task, Idle, Ended}
use Rattle.scan_board.specs.Calls.{BoardSeat, Called}
use Rattle.scan_classes.specs.declared.class.Class.{Class}
use Rattle.scan_classes.specs.declared.class.Class.TheVariants.{Short, Long}
use Rattle.scan_classes.specs.declared.class.ClassTake.{ClassTake}
use Rattle.scan_classes.specs.declared.class.ClassTake.TheVariants as taken
use Rattle.scan_classes.specs.ClassTakes.{AnswersClassTake, CalledAt, Took, TookNone}
use Rattle.scan_classes.specs.Pairs.{PairSeat, seat_at}

-- a participant has the lock and the ring that it had
pub record Stays {R : Type 0} (old new : BoardSeat R) : Type 0 where
  pub turn : new.turn ≡ old.turn
  pub ring : new.root.ring ≡ old.root.ring

same_stays : {R : Type 0} (old new : BoardSeat R) → new ≡ old → Stays old new
same_stays {R} old new e = record {
  turn = ap (λ (s : BoardSeat R). s.turn) e;
  ring = ap (λ (s : BoardSeat R). s.root.ring) e;
}

called_stays : {R : Type 0} (asks : R → ℕ → ℕ → Type 0) (answers : BoardState R → BoardState R → Type 0) (old new : BoardSeat R)
    → Called asks answers old new → Stays old new
called_stays {R} asks answers old new c = record {
  turn = ap (λ (s : BoardSeat R). s.turn) c.same;
  ring = ap (λ (s : BoardSeat R). s.root.ring) c.same;
}

-- after a call of the board of one class
pub called_at_stays : {R : Type 0} (asks : R → ℕ → ℕ → Type 0) (answers : BoardState R → BoardState R → Type 0) (class : Class)
    (old new : PairSeat R) → CalledAt asks class answers old new → (p : Class) → Stays (seat_at old p) (seat_at new p)
called_at_stays asks answers Short old new c Short = called_stays asks answers old.short new.short c.here
called_at_stays asks answers Short old new c Long = same_stays old.long new.long c.other
called_at_stays asks answers Long old new c Short = same_stays old.short new.short c.other
called_at_stays asks answers Long old new c Long = called_stays asks answers old.long new.long c.here

took_stays : {R : Type 0} (asks : R → ℕ → ℕ → Type 0) (answer : Take) (old new : BoardSeat R) → Took asks answer old new → Stays old new
took_stays asks answer old new c = called_stays asks _ old new c

took_none_stays : {R : Type 0} (asks : R → ℕ → ℕ → Type 0) (old new : BoardSeat R) → TookNone asks old new → Stays old new
took_none_stays asks old new c = ⊎_elim (λ i. called_stays asks _ old new i) (λ e. called_stays asks _ old new e) c

-- after a take
pub class_take_stays : {R : Type 0} (asks : R → ℕ → ℕ → Type 0) (old : PairSeat R) (answer : ClassTake) (new : PairSeat R)
    → AnswersClassTake asks old answer new → (p : Class) → Stays (seat_at old p) (seat_at new p)
class_take_stays asks old (taken.Short task) new h Short = took_stays asks (Task task) old.short new.short h.0
class_take_stays asks old (taken.Short task) new h Long = same_stays old.long new.long h.1
class_take_stays asks old (taken.Long task) new h Short = took_none_stays asks old.short new.short h.0
class_take_stays asks old (taken.Long task) new h Long = took_stays asks (Task task) old.long new.long h.1
class_take_stays asks old taken.Idle new h Short = ⊎_elim (λ a. took_stays asks Idle old.short new.short a.0) (λ b. took_stays asks Ended old.short new.short b.0) h
class_take_stays asks old taken.Idle new h Long = ⊎_elim (λ a. took_none_stays asks old.long new.long a.1) (λ b. took_stays asks Idle old.long new.long b.1) h
class_take_stays asks old taken.Ended new h Short = took_stays asks Ended old.short new.short h.0
class_take_stays asks old taken.Ended new h Long = took_stays asks Ended old.long new.long h.1

-- chunks below the ring of both boards are below that of each
pub in_ring_at : {R : Type 0} (pair : PairSeat R) (class : Class) (chunks : List ℕ) → pair.short.root.ring ≡ 34 → pair.long.root.ring ≡ 34
    → All (λ k. k < 34) chunks → All (λ k. k < (seat_at pair class).root.ring) chunks
in_ring_at pair Short chunks s l h = subst (λ (n : ℕ). All (λ k. k < n) chunks) (sym s) h
in_ring_at pair Long chunks s l h = subst (λ (n : ℕ). All (λ k. k < n) chunks) (sym l) h
