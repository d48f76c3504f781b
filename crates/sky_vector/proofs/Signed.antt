-- The toolkit for signed numbers. A whole number is written as a difference of two naturals, `of p n`; sums and products
-- of differences are differences again, and two differences are equal where two sums of naturals are, which `omega arith`
-- decides, products multiplied out. So an identity of polynomials over ℤ is proved in two steps: first at
-- differences, by `simp differences (of-same _ _ _ _ (omega arith))`, then at all numbers, by `rw (whole a, whole b, ..)`.
use Rattle.std.proofs.Common.{◌≡◌, ℕ, ℤ, pos, ◌+◌, ◌-◌, ◌*◌, ◌+ℤ◌, ◌-ℤ◌, ◌*ℤ◌, ◌≤ℤ◌, arith, refl, ◌∙◌, inl, inr}
use Rattle.std.proofs.lemmas.Bool.{cases_lt}
use Rattle.std.proofs.lemmas.Int.{ints}
use borrow.Author.Differences.{up, down}
use lib.IntN.{neg_ℤ}

-- the number p - n
pub of : ℕ → ℕ → ℤ
of p n = pos p -ℤ pos n

-- each number is such a difference
pub whole : (z : ℤ) → z ≡ of (up z) (down z)
unfolding of
whole z = omega (arith, ints)

-- the difference of nothing and nothing is 0
pub of-zero : of 0 0 ≡ pos 0
unfolding of
of-zero = refl

-- a natural is a difference from nothing
pub of-pos : (p : ℕ) → pos p ≡ of p 0
unfolding of
of-pos p = omega (arith, ints)

-- the sum of two differences
pub of-add : (p n q m : ℕ) → of p n +ℤ of q m ≡ of (p + q) (n + m)
unfolding of
of-add p n q m = omega (arith, ints)

-- the difference of two differences
pub of-sub : (p n q m : ℕ) → of p n -ℤ of q m ≡ of (p + m) (n + q)
unfolding of
of-sub p n q m = omega (arith, ints)

-- the opposite of a difference
pub of-neg : (p n : ℕ) → neg_ℤ (of p n) ≡ of n p
unfolding of
of-neg p n = omega (arith, ints)

-- two differences are equal where the cross sums are
pub of-same : (p n q m : ℕ) → p + m ≡ q + n → of p n ≡ of q m
unfolding of
of-same p n q m h = omega (arith, ints)

-- a product, by the signs
mul_at : (x y : ℤ) → x *ℤ y ≡ of (up x * up y + down x * down y) (up x * down y + down x * up y)
unfolding of
mul_at x y = omega (arith, ints)

-- a difference is its upper part less its lower part
diff : (p n : ℕ) → up (of p n) + n ≡ down (of p n) + p
unfolding of
diff p n = omega (arith, ints)

-- two pairs with one difference are a number apart, one way or the other
data Apart (a b p n : ℕ) : Type 0 where
  over : (k : ℕ) → a ≡ b + k → p ≡ n + k → Apart a b p n
  under : (k : ℕ) → b ≡ a + k → n ≡ p + k → Apart a b p n

-- which way it is
apart : (a b p n : ℕ) → a + n ≡ b + p → Apart a b p n
apart a b p n h = elim (cases_lt b a) [ inl l ↦ over (a - b) (omega arith) (omega arith) | inr l ↦ under (b - a) (omega arith) (omega arith) ]

-- the cross sums of two products are equal
Crossed : (a b p n c d q m : ℕ) → Type 0
Crossed a b p n c d q m = (a * c + b * d) + (p * m + n * q) ≡ (p * q + n * m) + (a * d + b * c)

-- that, by the ways
crossed_at : (a b p n c d q m : ℕ) → Apart a b p n → Apart c d q m → Crossed a b p n c d q m
unfolding Crossed
crossed_at a b p n c d q m (over k e f) (over l e' f') = rw (e, f, e', f') (omega arith)
crossed_at a b p n c d q m (over k e f) (under l e' f') = rw (e, f, e', f') (omega arith)
crossed_at a b p n c d q m (under k e f) (over l e' f') = rw (e, f, e', f') (omega arith)
crossed_at a b p n c d q m (under k e f) (under l e' f') = rw (e, f, e', f') (omega arith)

-- a product takes equal pairs to equal ones
crossed : (a b p n c d q m : ℕ) → a + n ≡ b + p → c + m ≡ d + q → (a * c + b * d) + (p * m + n * q) ≡ (p * q + n * m) + (a * d + b * c)
unfolding Crossed
crossed a b p n c d q m h k = crossed_at a b p n c d q m (apart a b p n h) (apart c d q m k)

-- the product of two differences
pub of-mul : (p n q m : ℕ) → of p n *ℤ of q m ≡ of (p * q + n * m) (p * m + n * q)
of-mul p n q m = mul_at (of p n) (of q m) ∙ of-same _ _ _ _ (crossed _ _ p n _ _ q m (diff p n) (diff q m))

-- the sum, the opposite and the product of differences as one difference, for `simp`
pub ruleset differences = (of-add, of-neg, of-mul)

-- the next one at differences
mul_add_of : (a a' b b' c c' : ℕ) → of a a' *ℤ (of b b' +ℤ of c c') ≡ (of a a' *ℤ of b b') +ℤ (of a a' *ℤ of c c')
mul_add_of a a' b b' c c' = simp differences (of-same _ _ _ _ (omega arith))

-- a product with a sum is the sum of the products
pub mul-add : (a b c : ℤ) → a *ℤ (b +ℤ c) ≡ (a *ℤ b) +ℤ (a *ℤ c)
mul-add a b c = rw (whole a, whole b, whole c) (mul_add_of (up a) (down a) (up b) (down b) (up c) (down c))

-- the next one at differences
sub_mul_of : (a a' b b' x x' : ℕ) → (of a a' -ℤ of b b') *ℤ of x x' ≡ (of a a' *ℤ of x x') -ℤ (of b b' *ℤ of x x')
sub_mul_of a a' b b' x x' = simp differences (of-same _ _ _ _ (omega arith))

-- a difference times a number is the difference of the products
pub sub-mul : (a b x : ℤ) → (a -ℤ b) *ℤ x ≡ (a *ℤ x) -ℤ (b *ℤ x)
sub-mul a b x = rw (whole a, whole b, whole x) (sub_mul_of (up a) (down a) (up b) (down b) (up x) (down x))

-- the product of two numbers from 0 on is from 0 on
pub product_up : (a b : ℤ) → pos 0 ≤ℤ a → pos 0 ≤ℤ b → pos 0 ≤ℤ (a *ℤ b)
product_up a b h k = grind (arith, ints)

-- a square is not below 0
pub square_up : (a : ℤ) → pos 0 ≤ℤ (a *ℤ a)
square_up a = grind (arith, ints)

-- a product with a number from 0 on keeps the order
pub mul_mono : (a b x : ℤ) → a ≤ℤ b → pos 0 ≤ℤ x → (a *ℤ x) ≤ℤ (b *ℤ x)
mul_mono a b x h k =
    let gap : pos 0 ≤ℤ (b -ℤ a) = omega (arith, ints) in
    let product = product_up (b -ℤ a) x gap k in
    let parts = sub-mul b a x in omega (arith, ints, product, parts)

-- a number that is another one and two products of numbers from 0 on is not below it
pub over_by : (a b c d e f : ℤ) → e ≡ f +ℤ ((a *ℤ b) +ℤ (c *ℤ d)) → pos 0 ≤ℤ a → pos 0 ≤ℤ b → pos 0 ≤ℤ c → pos 0 ≤ℤ d → f ≤ℤ e
over_by a b c d e f h ha hb hc hd =
    let first = product_up a b ha hb in
    let second = product_up c d hc hd in omega (arith, ints, first, second)
