-- Signs of products of whole numbers.
use Rattle.std.proofs.Common.{◌≡◌, ℕ, ℤ, pos, ◌+◌, ◌*◌, ◌-◌, ◌<◌, ◌≤◌, ◌+ℤ◌, ◌-ℤ◌, ◌*ℤ◌, ◌≤ℤ◌, ◌<ℤ◌, arith, inl, inr, ◌⊎◌, ap}
use Rattle.std.proofs.lemmas.Bool.{cases_lt}
use Rattle.std.proofs.lemmas.Int.{ints}
use borrow.Author.Differences.{up, down}
use lib.IntN.{neg_ℤ}
use Rattle.sky_vector.specs.Plane.{plane_product}
use Rattle.sky_vector.proofs.Signed.{of, whole, of-pos, of-neg, of-add, of-same, differences, product_up, sub-mul, mul_mono}

-- the difference of two naturals
pub of-naturals : (p n : ℕ) → pos p -ℤ pos n ≡ of p n
of-naturals p n =
    let upper = of-pos p in
    let lower = of-pos n in
    let minus = of-neg n 0 in
    let sum = of-add p 0 0 n in
    let same : of (p + 0) (0 + n) ≡ of p n = of-same _ _ _ _ (omega arith) in omega (arith, ints, upper, lower, minus, sum, same)

-- of two numbers the first is below the second or not
pub int_cases : (a b : ℤ) → (a <ℤ b) ⊎ (b ≤ℤ a)
int_cases a b = elim (cases_lt (up a + down b) (up b + down a)) [ inl l ↦ inl (omega (arith, ints)) | inr l ↦ inr (omega (arith, ints)) ]

-- the product of two numbers above 0 is above 0
pub product_above : (a b : ℤ) → pos 0 <ℤ a → pos 0 <ℤ b → pos 0 <ℤ (a *ℤ b)
product_above a b h k =
    let m = product_up (a -ℤ pos 1) b (omega (arith, ints)) (omega (arith, ints)) in
    let e = sub-mul a (pos 1) b in omega (arith, ints, m, e, k)

-- the next one at differences
neg_mul_of : (a a' b b' : ℕ) → neg_ℤ (of a a') *ℤ of b b' ≡ neg_ℤ (of a a' *ℤ of b b')
neg_mul_of a a' b b' = simp differences (of-same _ _ _ _ (omega arith))

-- a minus in front of the first factor is one in front of the product
pub neg_mul : (a b : ℤ) → neg_ℤ a *ℤ b ≡ neg_ℤ (a *ℤ b)
neg_mul a b = rw (whole a, whole b) (neg_mul_of (up a) (down a) (up b) (down b))

-- the next one at differences
mul_neg_of : (a a' b b' : ℕ) → of a a' *ℤ neg_ℤ (of b b') ≡ neg_ℤ (of a a' *ℤ of b b')
mul_neg_of a a' b b' = simp differences (of-same _ _ _ _ (omega arith))

-- a minus in front of the second factor too
pub mul_neg : (a b : ℤ) → a *ℤ neg_ℤ b ≡ neg_ℤ (a *ℤ b)
mul_neg a b = rw (whole a, whole b) (mul_neg_of (up a) (down a) (up b) (down b))

-- on the right side of the square the sign changes once, at the step that division finds
pub right_side : (n y x place t : ℤ) → pos 0 ≤ℤ x → (place *ℤ x) ≤ℤ (n *ℤ y) → (n *ℤ y) <ℤ ((place +ℤ pos 1) *ℤ x)
    → (t ≤ℤ place → (t *ℤ x) ≤ℤ (n *ℤ y)) × (place <ℤ t → (n *ℤ y) <ℤ (t *ℤ x))
right_side n y x place t up_x low high = (
  (λ h. let m = mul_mono t place x h up_x in omega (arith, ints, m, low)),
  (λ h. let g : (place +ℤ pos 1) ≤ℤ t = omega (arith, ints) in let m = mul_mono (place +ℤ pos 1) t x g up_x in omega (arith, ints, m, high)),
)

-- before that step it is above 0
pub before_place : (n y x place r : ℤ) → pos 0 <ℤ x → (place *ℤ x) ≤ℤ (n *ℤ y) → r <ℤ place → (r *ℤ x) <ℤ (n *ℤ y)
before_place n y x place r hx low h =
    let d = product_above (place -ℤ r) x (omega (arith, ints)) hx in
    let e = sub-mul place r x in
    omega (arith, ints, d, e, low)

-- the next one at differences
above_of : (n n' r r' x x' y y' : ℕ) → (of n n' *ℤ of x x') +ℤ (of r r' *ℤ of y y') ≡ ((of n n' +ℤ of r r') *ℤ of y y') +ℤ (of n n' *ℤ (of x x' -ℤ of y y'))
above_of n n' r r' x x' y y' = simp differences (of-same _ _ _ _ (omega arith))

-- a sum of two products, with what is above 0 put together
above : (n r x y : ℤ) → (n *ℤ x) +ℤ (r *ℤ y) ≡ ((n +ℤ r) *ℤ y) +ℤ (n *ℤ (x -ℤ y))
above n r x y = rw (whole n, whole r, whole x, whole y) (above_of (up n) (down n) (up r) (down r) (up x) (down x) (up y) (down y))

-- the next one at differences
below_of : (n n' r r' x x' y y' : ℕ) → (of n n' *ℤ of x x') +ℤ (of r r' *ℤ of y y') ≡ ((of n n' -ℤ of r r') *ℤ neg_ℤ (of y y')) +ℤ (of n n' *ℤ (of x x' +ℤ of y y'))
below_of n n' r r' x x' y y' = simp differences (of-same _ _ _ _ (omega arith))

-- the same for a point below the middle
below : (n r x y : ℤ) → (n *ℤ x) +ℤ (r *ℤ y) ≡ ((n -ℤ r) *ℤ neg_ℤ y) +ℤ (n *ℤ (x +ℤ y))
below n r x y = rw (whole n, whole r, whole x, whole y) (below_of (up n) (down n) (up r) (down r) (up x) (down x) (up y) (down y))

-- on the sides that stand across the point there is no change of sign
pub ahead_up : (n r x y : ℤ) → pos 0 <ℤ n → neg_ℤ n ≤ℤ r → r <ℤ n → neg_ℤ x ≤ℤ y → y <ℤ x → pos 0 <ℤ ((n *ℤ x) +ℤ (r *ℤ y))
ahead_up n r x y hn low high left right = elim (int_cases y (pos 0)) [
  | inl l ↦
      let a = product_above (n -ℤ r) (neg_ℤ y) (omega (arith, ints)) (omega (arith, ints)) in
      let b = product_up n (x +ℤ y) (omega (arith, ints)) (omega (arith, ints)) in
      let e = below n r x y in
      omega (arith, ints, a, b, e)
  | inr l ↦
      let a = product_up (n +ℤ r) y (omega (arith, ints)) l in
      let b = product_above n (x -ℤ y) hn (omega (arith, ints)) in
      let e = above n r x y in
      omega (arith, ints, a, b, e)
]

-- the next one at differences
order_of : (a a' b b' : ℕ) → of a a' *ℤ of b b' ≡ of b b' *ℤ of a a'
order_of a a' b b' = simp differences (of-same _ _ _ _ (omega arith))

-- the factors of a product change places
pub order : (a b : ℤ) → a *ℤ b ≡ b *ℤ a
order a b = rw (whole a, whole b) (order_of (up a) (down a) (up b) (down b))

-- the next one at differences
swap_of : (a a' b b' c c' d d' : ℕ) → plane_product (of a a') (of b b') (of c c') (of d d') ≡ neg_ℤ (plane_product (of c c') (of d d') (of a a') (of b b'))
swap_of a a' b b' c c' d d' = simp differences (of-same _ _ _ _ (omega arith))

-- the two directions of a plane product change places with its sign
pub swap : (a b c d : ℤ) → plane_product a b c d ≡ neg_ℤ (plane_product c d a b)
swap a b c d = rw (whole a, whole b, whole c, whole d) (swap_of (up a) (down a) (up b) (down b) (up c) (down c) (up d) (down d))

-- the next one at differences
past_scaled_of : (m m' a a' b b' x x' y y' : ℕ) → plane_product (of m m' *ℤ of a a') (of m m' *ℤ of b b') (of x x') (of y y') ≡ of m m' *ℤ plane_product (of a a') (of b b') (of x x') (of y y')
past_scaled_of m m' a a' b b' x x' y y' = simp differences (of-same _ _ _ _ (omega arith))

-- a direction m times as long has a product m times as large
pub past_scaled : (m a b x y : ℤ) → plane_product (m *ℤ a) (m *ℤ b) x y ≡ m *ℤ plane_product a b x y
past_scaled m a b x y = rw (whole m, whole a, whole b, whole x, whole y) (past_scaled_of (up m) (down m) (up a) (down a) (up b) (down b) (up x) (down x) (up y) (down y))

-- which is from 0 on where the product itself is
pub sign_up : (m : ℕ) (z : ℤ) → 0 < m → pos 0 ≤ℤ (pos m *ℤ z) → pos 0 ≤ℤ z
sign_up m z hm h = elim (int_cases z (pos 0)) [
  | inl l ↦ let a = product_above (pos m) (neg_ℤ z) (omega (arith, ints, hm)) (omega (arith, ints, l)) in let e = mul_neg (pos m) z in omega (arith, ints, a, e, h)
  | inr l ↦ l
]

-- and below 0 where that is
pub sign_down : (m : ℕ) (z : ℤ) → (pos m *ℤ z) <ℤ pos 0 → z <ℤ pos 0
sign_down m z h = elim (int_cases z (pos 0)) [
  | inl l ↦ l
  | inr l ↦ let a = product_up (pos m) z (omega (arith, ints)) l in omega (arith, ints, a, h)
]

-- a product of naturals grows with its first factor
pub times_lt : (a b m : ℕ) → a < b → 0 < m → a * m < b * m
times_lt a b m h k = let e : b * m ≡ (a + 1 + (b - (a + 1))) * m = ap (λ t. t * m) (omega arith) in omega (arith, e, k)

-- or stays
pub times_le : (a b m : ℕ) → a ≤ b → a * m ≤ b * m
times_le a b m h = let e : b * m ≡ (a + (b - a)) * m = ap (λ t. t * m) (omega arith) in omega (arith, e)
