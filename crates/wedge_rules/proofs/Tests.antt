-- The test of a wedge is true exactly where the wedge holds the point.
use Rattle.std.proofs.Common.{◌≡◌, ℕ, ℤ, pos, ◌+◌, ◌≤◌, ◌≤ℤ◌, ◌<ℤ◌, arith, refl, sym, ◌∙◌, inl, inr, Bool, true, false, cond, nat_eq, ◌&&◌, int_le, int_lt, eqb-true, eq-eqb, true≢false}
use Rattle.std.specs.Ordering.{int_eq}
use Rattle.std.proofs.lemmas.Bool.{and_parts, and_from}
use Rattle.std.proofs.lemmas.Int.{ints}
use Rattle.wedge_rules.specs.Heading.{heading, past}
use Rattle.wedge_rules.specs.Wedge.{IsWedgeCount, InWedge, whole, axis, between, in_wedge}
use Rattle.wedge_rules.specs.Laws.{TestIsTheFact}
use Rattle.wedge_rules.proofs.Fine.{past_axis}

-- a test of order as a fact
pub le_from : (a b : ℤ) → int_le a b ≡ true → a ≤ℤ b
le_from a b h = grind (arith, ints)

-- a strict one
pub lt_from : (a b : ℤ) → int_lt a b ≡ true → a <ℤ b
lt_from a b h = grind (arith, ints)

-- facts of order and equality as tests
pub le_to : (a b : ℤ) → a ≤ℤ b → int_le a b ≡ true
le_to a b h = grind (arith, ints)

-- a strict one
pub lt_to : (a b : ℤ) → a <ℤ b → int_lt a b ≡ true
lt_to a b h = grind (arith, ints)

-- an equality as a fact
pub eq_from : (a b : ℤ) → int_eq a b ≡ true → a ≡ b
eq_from a b h = grind (arith, ints)

-- and as a test
pub eq_to : (a b : ℤ) → a ≡ b → int_eq a b ≡ true
eq_to a b h = grind (arith, ints)

-- a count that is not 1 is at least 3
big : (n : ℕ) → IsWedgeCount n → nat_eq n 1 ≡ false → 3 ≤ n
big n (inl e) h = absurd (true≢false (sym (eq-eqb n 1 e) ∙ h))
big n (inr l) h = l

-- the test, by its two conditions
Chosen : (n k : ℕ) (x y : ℤ) (a b : Bool) → Bool
Chosen n k x y a b = cond a (nat_eq k 0) (cond b (nat_eq k 0) (int_le (pos 0) (past (heading n k) x y) && int_lt (past (heading n (k + 1)) x y) (pos 0)))

-- the test gives the fact
from_test : (n k : ℕ) (x y : ℤ) (a b : Bool) → nat_eq n 1 ≡ a → (int_eq x (pos 0) && int_eq y (pos 0)) ≡ b → IsWedgeCount n → Chosen n k x y a b ≡ true → InWedge n k x y
unfolding Chosen
from_test n k x y true b e f s h = whole (eqb-true n 1 e) (eqb-true k 0 h)
from_test n k x y false true e f s h = let p = and_parts _ _ f in axis (big n s e) (eq_from x (pos 0) p.0) (eq_from y (pos 0) p.1) (eqb-true k 0 h)
from_test n k x y false false e f s h = let p = and_parts _ _ h in between (big n s e) (le_from _ _ p.0, lt_from _ _ p.1)

-- the fact gives the test
to_test : (n k : ℕ) (x y : ℤ) (a b : Bool) → nat_eq n 1 ≡ a → (int_eq x (pos 0) && int_eq y (pos 0)) ≡ b → InWedge n k x y → Chosen n k x y a b ≡ true
unfolding Chosen
to_test n k x y true b e f (whole g h) = eq-eqb k 0 h
to_test n k x y true b e f (axis g p q h) = eq-eqb k 0 h
to_test n k x y true b e f (between g h) = let one = eqb-true n 1 e in eq-eqb k 0 (omega (arith, g, one))
to_test n k x y false b e f (whole g h) = absurd (true≢false (sym (eq-eqb n 1 g) ∙ e))
to_test n k x y false true e f (axis g p q h) = eq-eqb k 0 h
to_test n k x y false false e f (axis g p q h) = absurd (true≢false (sym (and_from _ _ (eq_to x (pos 0) p) (eq_to y (pos 0) q)) ∙ f))
to_test n k x y false true e f (between g h) = let p = and_parts _ _ f in let z = past_axis (heading n (k + 1)).dx (heading n (k + 1)).dy x y (eq_from x (pos 0) p.0) (eq_from y (pos 0) p.1) in let w = h.1 in eq-eqb k 0 (omega (arith, ints, z, w))
to_test n k x y false false e f (between g h) = and_from _ _ (le_to _ _ h.0) (lt_to _ _ h.1)

-- the test is the fact
pub test_is_the_fact : TestIsTheFact
unfolding in_wedge Chosen
test_is_the_fact n k x y s = (from_test n k x y _ _ refl refl s, to_test n k x y _ _ refl refl)
