-- The board of a class and the other one.
use Rattle.std.proofs.Common.{◌≡◌, ℕ, Bool, true, false, ◌⊎◌, inl, inr, ⊎_elim, refl, sym, ap, ◌∙◌, subst}
use Rattle.std.proofs.lemmas.Bool.{false≢true, true≢false}
use Rattle.scan_core.specs.Boards.{BoardState}
use Rattle.scan_board.specs.Calls.{BoardSeat, Called}
use Rattle.scan_classes.specs.declared.class.Class.{Class}
use Rattle.scan_classes.specs.declared.class.Class.TheVariants.{Short, Long}
use Rattle.scan_classes.specs.QueryClasses.{same_class}
use Rattle.scan_classes.specs.Pairs.{PairSeat, other_than, seat_at}

-- a class is this one or the other
beside : (class p : Class) → (p ≡ class) ⊎ (p ≡ other_than class)
beside Short Short = inl refl
beside Short Long = inr refl
beside Long Short = inr refl
beside Long Long = inl refl

-- a call at the board of one class leaves each participant but that one's
pub others_stay : {R : Type 0} (class : Class) (old new : PairSeat R) → seat_at new (other_than class) ≡ seat_at old (other_than class)
    → (p : Class) → (p ≡ class) ⊎ (seat_at new p ≡ seat_at old p)
others_stay class old new e p = ⊎_elim (λ s. inl s) (λ o. inr (subst (λ (k : Class). seat_at new k ≡ seat_at old k) (sym o) e)) (beside class p)

-- classes that are the same or not, by the test
pub same_is : (p class : Class) → same_class p class ≡ true → p ≡ class
same_is Short Short h = refl
same_is Short Long h = absurd (false≢true h)
same_is Long Short h = absurd (false≢true h)
same_is Long Long h = refl

pub other_is : (p class : Class) → same_class p class ≡ false → p ≡ other_than class
other_is Short Short h = absurd (true≢false h)
other_is Short Long h = refl
other_is Long Short h = refl
other_is Long Long h = absurd (true≢false h)

-- the participant of a class that is not the one of the call
pub else_stays : {R : Type 0} (class p : Class) (old new : PairSeat R) → seat_at new (other_than class) ≡ seat_at old (other_than class) → same_class p class ≡ false
    → seat_at new p ≡ seat_at old p
else_stays class p old new e h = subst (λ (k : Class). seat_at new k ≡ seat_at old k) (sym (other_is p class h)) e

-- what holds of each class
pub by_class : (A : Class → Type 0) → A Short → A Long → (p : Class) → A p
by_class A s l Short = s
by_class A s l Long = l
