-- A point between two sides that is far from both is far from each line that lies outside of them.
use Rattle.std.proofs.Common.{◌≡◌, ℕ, ℤ, pos, ◌+ℤ◌, ◌-ℤ◌, ◌*ℤ◌, ◌≤ℤ◌, ◌<ℤ◌, arith, sym, ◌∙◌, ap, subst, inl, inr, ◌⊎◌}
use Rattle.std.proofs.lemmas.Int.{ints}
use borrow.Author.Differences.{up, down}
use lib.IntN.{neg_ℤ}
use Rattle.sky_vector.specs.Points.{square}
use Rattle.sky_vector.specs.Plane.{plane_product, length_squared, IsNearLine}
use Rattle.sky_vector.proofs.Signed.{of, whole, of-same, differences, product_up, square_up, mul_mono}
use Rattle.sky_vector.proofs.Plane.{plane_law, length_up}
use Rattle.wedge_rules.proofs.Products.{int_cases, product_above, past_scaled, mul_neg, order}
use Rattle.sky_rules.proofs.Near.{below_root}

-- a direction m times as long: its square
square_scaled_of : (m m' q q' : ℕ) → square (of m m' *ℤ of q q') ≡ square (of q q') *ℤ square (of m m')
square_scaled_of m m' q q' = simp differences (of-same _ _ _ _ (omega arith))

square_scaled : (m q : ℤ) → square (m *ℤ q) ≡ square q *ℤ square m
square_scaled m q = rw (whole m, whole q) (square_scaled_of (up m) (down m) (up q) (down q))

-- and its squared length, times a number
length_scaled_of : (m m' u u' v v' n n' : ℕ)
    → length_squared (of m m' *ℤ of u u') (of m m' *ℤ of v v') *ℤ of n n'
    ≡ (length_squared (of u u') (of v v') *ℤ of n n') *ℤ square (of m m')
length_scaled_of m m' u u' v v' n n' = simp differences (of-same _ _ _ _ (omega arith))

length_scaled : (m u v n : ℤ) → length_squared (m *ℤ u) (m *ℤ v) *ℤ n ≡ (length_squared u v *ℤ n) *ℤ square m
length_scaled m u v n =
    rw (whole m, whole u, whole v, whole n) (length_scaled_of (up m) (down m) (up u) (down u) (up v) (down v) (up n) (down n))

-- what is near a line is near it however long the direction is
scaled_near : (m u v x y n : ℤ) → IsNearLine u v x y n → IsNearLine (m *ℤ u) (m *ℤ v) x y n
scaled_near m u v x y n near =
    let more = mul_mono _ _ (square m) near (square_up m) in
    let product = ap square (past_scaled m u v x y) ∙ square_scaled m (plane_product u v x y) in
    let length = length_scaled m u v n in omega (arith, ints, more, product, length)

-- a direction by its products s and t with two others, as long as their product is large: its parts
turned_of : (a a' b b' c c' d d' u u' v v' : ℕ)
    → plane_product (of a a') (of b b') (of c c') (of d d') *ℤ of u u'
    ≡ (plane_product (of a a') (of b b') (of u u') (of v v') *ℤ of c c') -ℤ (plane_product (of c c') (of d d') (of u u') (of v v') *ℤ of a a')
turned_of a a' b b' c c' d d' u u' v v' = simp differences (of-same _ _ _ _ (omega arith))

turned_x : (a b c d u v : ℤ) → plane_product a b c d *ℤ u ≡ (plane_product a b u v *ℤ c) -ℤ (plane_product c d u v *ℤ a)
turned_x a b c d u v =
    rw (whole a, whole b, whole c, whole d, whole u, whole v)
    (turned_of (up a) (down a) (up b) (down b) (up c) (down c) (up d) (down d) (up u) (down u) (up v) (down v))

raised_of : (a a' b b' c c' d d' u u' v v' : ℕ)
    → plane_product (of a a') (of b b') (of c c') (of d d') *ℤ of v v'
    ≡ (plane_product (of a a') (of b b') (of u u') (of v v') *ℤ of d d') -ℤ (plane_product (of c c') (of d d') (of u u') (of v v') *ℤ of b b')
raised_of a a' b b' c c' d d' u u' v v' = simp differences (of-same _ _ _ _ (omega arith))

turned_y : (a b c d u v : ℤ) → plane_product a b c d *ℤ v ≡ (plane_product a b u v *ℤ d) -ℤ (plane_product c d u v *ℤ b)
turned_y a b c d u v =
    rw (whole a, whole b, whole c, whole d, whole u, whole v)
    (raised_of (up a) (down a) (up b) (down b) (up c) (down c) (up d) (down d) (up u) (down u) (up v) (down v))

-- the product of such a direction with a point
product_mixed_of : (s s' t t' a a' b b' c c' d d' x x' y y' : ℕ)
    → plane_product ((of s s' *ℤ of c c') -ℤ (of t t' *ℤ of a a')) ((of s s' *ℤ of d d') -ℤ (of t t' *ℤ of b b')) (of x x') (of y y')
    ≡ (of s s' *ℤ plane_product (of c c') (of d d') (of x x') (of y y')) -ℤ (of t t' *ℤ plane_product (of a a') (of b b') (of x x') (of y y'))
product_mixed_of s s' t t' a a' b b' c c' d d' x x' y y' = simp differences (of-same _ _ _ _ (omega arith))

product_mixed : (s t a b c d x y : ℤ)
    → plane_product ((s *ℤ c) -ℤ (t *ℤ a)) ((s *ℤ d) -ℤ (t *ℤ b)) x y ≡ (s *ℤ plane_product c d x y) -ℤ (t *ℤ plane_product a b x y)
product_mixed s t a b c d x y =
    rw (whole s, whole t, whole a, whole b, whole c, whole d, whole x, whole y)
    (product_mixed_of (up s) (down s) (up t) (down t) (up a) (down a) (up b) (down b) (up c) (down c) (up d) (down d) (up x) (down x) (up y) (down y))

-- the sum of the products of the parts of two directions
inner : ℤ → ℤ → ℤ → ℤ → ℤ
inner a b c d = (a *ℤ c) +ℤ (b *ℤ d)

-- the squared length of such a direction
length_mixed_of : (s s' t t' a a' b b' c c' d d' : ℕ)
    → length_squared ((of s s' *ℤ of c c') -ℤ (of t t' *ℤ of a a')) ((of s s' *ℤ of d d') -ℤ (of t t' *ℤ of b b'))
    ≡ ((square (of s s') *ℤ length_squared (of c c') (of d d')) +ℤ (square (of t t') *ℤ length_squared (of a a') (of b b')))
    -ℤ ((of s s' *ℤ of t t') *ℤ (inner (of a a') (of b b') (of c c') (of d d') +ℤ inner (of a a') (of b b') (of c c') (of d d')))
unfolding inner
length_mixed_of s s' t t' a a' b b' c c' d d' = simp differences (of-same _ _ _ _ (omega arith))

length_mixed : (s t a b c d : ℤ)
    → length_squared ((s *ℤ c) -ℤ (t *ℤ a)) ((s *ℤ d) -ℤ (t *ℤ b))
    ≡ ((square s *ℤ length_squared c d) +ℤ (square t *ℤ length_squared a b)) -ℤ ((s *ℤ t) *ℤ (inner a b c d +ℤ inner a b c d))
length_mixed s t a b c d =
    rw (whole s, whole t, whole a, whole b, whole c, whole d)
    (length_mixed_of (up s) (down s) (up t) (down t) (up a) (down a) (up b) (down b) (up c) (down c) (up d) (down d))

-- its squared product with a point is over its squared length, n times, by three parts
parts_of : (s s' t t' p p' q q' k k' l l' i i' n n' : ℕ)
    → square ((of s s' *ℤ of q q') -ℤ (of t t' *ℤ of p p'))
    ≡ ((((square (of s s') *ℤ of l l') +ℤ (square (of t t') *ℤ of k k')) -ℤ ((of s s' *ℤ of t t') *ℤ (of i i' +ℤ of i i'))) *ℤ of n n')
    +ℤ (square (of s s') *ℤ (square (of q q') -ℤ (of l l' *ℤ of n n')))
    +ℤ (square (of t t') *ℤ (square (of p p') -ℤ (of k k' *ℤ of n n')))
    +ℤ ((of s s' *ℤ of t t') *ℤ (((of i i' *ℤ of n n') -ℤ (of p p' *ℤ of q q')) +ℤ ((of i i' *ℤ of n n') -ℤ (of p p' *ℤ of q q'))))
parts_of s s' t t' p p' q q' k k' l l' i i' n n' = simp differences (of-same _ _ _ _ (omega arith))

parts : (s t p q k l i n : ℤ)
    → square ((s *ℤ q) -ℤ (t *ℤ p))
    ≡ ((((square s *ℤ l) +ℤ (square t *ℤ k)) -ℤ ((s *ℤ t) *ℤ (i +ℤ i))) *ℤ n)
    +ℤ (square s *ℤ (square q -ℤ (l *ℤ n)))
    +ℤ (square t *ℤ (square p -ℤ (k *ℤ n)))
    +ℤ ((s *ℤ t) *ℤ (((i *ℤ n) -ℤ (p *ℤ q)) +ℤ ((i *ℤ n) -ℤ (p *ℤ q))))
parts s t p q k l i n =
    rw (whole s, whole t, whole p, whole q, whole k, whole l, whole i, whole n)
    (parts_of (up s) (down s) (up t) (down t) (up p) (down p) (up q) (down q) (up k) (down k) (up l) (down l) (up i) (down i) (up n) (down n))

-- Two numbers from 0 on, of which one is not 0, or two numbers up to 0, of which one is not.
pub data Alike (s t : ℤ) : Type 0 where
  ups : pos 0 ≤ℤ s → pos 0 ≤ℤ t → pos 0 <ℤ (s +ℤ t) → Alike s t
  downs : s ≤ℤ pos 0 → t ≤ℤ pos 0 → (s +ℤ t) <ℤ pos 0 → Alike s t

-- the square of a number that is not 0 is above 0
square_down_of : (a a' : ℕ) → square (neg_ℤ (of a a')) ≡ square (of a a')
square_down_of a a' = simp differences (of-same _ _ _ _ (omega arith))

square_down : (a : ℤ) → square (neg_ℤ a) ≡ square a
square_down a = rw (whole a) (square_down_of (up a) (down a))

above : (a : ℤ) → pos 0 <ℤ a → pos 0 <ℤ square a
above a h = product_above a a h h

below : (a : ℤ) → a <ℤ pos 0 → pos 0 <ℤ square a
below a h =
    let m = above (neg_ℤ a) (omega (arith, ints, h)) in
    let e = square_down a in omega (arith, ints, m, e)

-- so one of the two squares is
some_square : (s t : ℤ) → Alike s t → (pos 0 <ℤ square s) ⊎ (pos 0 <ℤ square t)
some_square s t (ups h k some) = elim (int_cases (pos 0) s) [
  | inl l ↦ inl (above s l)
  | inr l ↦ inr (above t (omega (arith, ints, l, some)))
]
some_square s t (downs h k some) = elim (int_cases s (pos 0)) [
  | inl l ↦ inl (below s l)
  | inr l ↦ inr (below t (omega (arith, ints, l, some)))
]

product_down_of : (s s' t t' : ℕ) → neg_ℤ (of s s') *ℤ neg_ℤ (of t t') ≡ of s s' *ℤ of t t'
product_down_of s s' t t' = simp differences (of-same _ _ _ _ (omega arith))

product_down : (s t : ℤ) → neg_ℤ s *ℤ neg_ℤ t ≡ s *ℤ t
product_down s t = rw (whole s, whole t) (product_down_of (up s) (down s) (up t) (down t))

-- and their product is from 0 on
alike_up : (s t : ℤ) → Alike s t → pos 0 ≤ℤ (s *ℤ t)
alike_up s t (ups h k some) = product_up s t h k
alike_up s t (downs h k some) =
    let m = product_up (neg_ℤ s) (neg_ℤ t) (omega (arith, ints, h)) (omega (arith, ints, k)) in
    let e = product_down s t in omega (arith, ints, m, e)

-- two squares times two numbers above 0, of which one square is above 0
sum_above : (a b u v : ℤ) → (pos 0 <ℤ a) ⊎ (pos 0 <ℤ b) → pos 0 ≤ℤ a → pos 0 ≤ℤ b → pos 0 <ℤ u → pos 0 <ℤ v
    → pos 0 <ℤ ((a *ℤ u) +ℤ (b *ℤ v))
sum_above a b u v (inl h) ha hb hu hv =
    let first = product_above a u h hu in
    let second = product_up b v hb (omega (arith, ints, hv)) in omega (arith, ints, first, second)
sum_above a b u v (inr h) ha hb hu hv =
    let first = product_up a u ha (omega (arith, ints, hu)) in
    let second = product_above b v h hv in omega (arith, ints, first, second)

square_product_of : (i i' n n' : ℕ) → square (of i i') *ℤ square (of n n') ≡ square (neg_ℤ (of i i' *ℤ of n n'))
square_product_of i i' n n' = simp differences (of-same _ _ _ _ (omega arith))

square_product : (i n : ℤ) → square i *ℤ square n ≡ square (neg_ℤ (i *ℤ n))
square_product i n = rw (whole i, whole n) (square_product_of (up i) (down i) (up n) (down n))

lengths_apart_of : (k k' l l' n n' : ℕ) → (of k k' *ℤ of l l') *ℤ square (of n n') ≡ (of k k' *ℤ of n n') *ℤ (of l l' *ℤ of n n')
lengths_apart_of k k' l l' n n' = simp differences (of-same _ _ _ _ (omega arith))

lengths_apart : (k l n : ℤ) → (k *ℤ l) *ℤ square n ≡ (k *ℤ n) *ℤ (l *ℤ n)
lengths_apart k l n = rw (whole k, whole l, whole n) (lengths_apart_of (up k) (down k) (up l) (down l) (up n) (down n))

squares_joined_of : (p p' q q' : ℕ) → square (of q q') *ℤ square (of p p') ≡ square (of p p' *ℤ neg_ℤ (of q q'))
squares_joined_of p p' q q' = simp differences (of-same _ _ _ _ (omega arith))

squares_joined : (p q : ℤ) → square q *ℤ square p ≡ square (p *ℤ neg_ℤ q)
squares_joined p q = rw (whole p, whole q) (squares_joined_of (up p) (down p) (up q) (down q))

-- five comparisons in a row
in_a_row : (a b c d e f g h : ℤ) → a ≡ b → b ≤ℤ c → c ≡ d → d ≤ℤ e → e ≡ f → f ≤ℤ g → g ≡ h → a ≤ℤ h
in_a_row a b c d e f g h ab bc cd de ef fg gh = omega (arith, ints)

-- where a point is far from two sides that it lies between, the product of its two products is small
products_below : (a b c d p q n : ℤ) → pos 0 ≤ℤ n → pos 0 ≤ℤ p → q ≤ℤ pos 0
    → (length_squared a b *ℤ n) <ℤ square p → (length_squared c d *ℤ n) <ℤ square q → (p *ℤ q) ≤ℤ (inner a b c d *ℤ n)
unfolding inner
products_below a b c d p q n hn hp hq far_p far_q =
    let i = inner a b c d in
    let k = length_squared a b in
    let l = length_squared c d in
    let law = mul_mono (square i) (k *ℤ l) (square n) (plane_law a b c d) (square_up n) in
    let first = mul_mono (k *ℤ n) (square p) (l *ℤ n) (omega (arith, ints, far_p)) (product_up l n (length_up c d) hn) in
    let second = mul_mono (l *ℤ n) (square q) (square p) (omega (arith, ints, far_q)) (square_up p) in
    let all = in_a_row _ _ _ _ _ _ _ _ (sym (square_product i n)) law (lengths_apart k l n) first (order (square p) (l *ℤ n)) second (squares_joined p q) in
    let root = below_root (neg_ℤ (i *ℤ n)) (p *ℤ neg_ℤ q) (product_up p (neg_ℤ q) hp (omega (arith, ints, hq))) all in
    let turned = mul_neg p q in omega (arith, ints, root, turned)

-- a number with three parts over another one, of which two together are above 0
over_three : (z w m f u v k : ℤ) → z ≡ w → w ≡ m +ℤ u +ℤ v +ℤ k → f ≡ m → pos 0 <ℤ (u +ℤ v) → pos 0 ≤ℤ k → f <ℤ z
over_three z w m f u v k e g h some up_k = omega (arith, ints)

-- what is over is above 0
over : (a b : ℤ) → a <ℤ b → pos 0 <ℤ (b -ℤ a)
over a b h = omega (arith, ints)

-- twice what is over is from 0 on
twice_over : (a b : ℤ) → a ≤ℤ b → pos 0 ≤ℤ ((b -ℤ a) +ℤ (b -ℤ a))
twice_over a b h = omega (arith, ints)

-- a point between two sides, far from both, is far from what they make together
far_mixed : (s t a b c d x y n : ℤ) → Alike s t → pos 0 ≤ℤ n
    → pos 0 ≤ℤ plane_product a b x y → plane_product c d x y ≤ℤ pos 0
    → (length_squared a b *ℤ n) <ℤ square (plane_product a b x y)
    → (length_squared c d *ℤ n) <ℤ square (plane_product c d x y)
    → (length_squared ((s *ℤ c) -ℤ (t *ℤ a)) ((s *ℤ d) -ℤ (t *ℤ b)) *ℤ n)
    <ℤ square (plane_product ((s *ℤ c) -ℤ (t *ℤ a)) ((s *ℤ d) -ℤ (t *ℤ b)) x y)
far_mixed s t a b c d x y n alike hn hp hq far_p far_q =
    let p = plane_product a b x y in
    let q = plane_product c d x y in
    let k = length_squared a b in
    let l = length_squared c d in
    let i = inner a b c d in
    let small = products_below a b c d p q n hn hp hq far_p far_q in
    over_three _ _ _ _ _ _ _ (ap square (product_mixed s t a b c d x y)) (parts s t p q k l i n) (ap (λ z. z *ℤ n) (length_mixed s t a b c d))
    (sum_above (square s) (square t) (square q -ℤ (l *ℤ n)) (square p -ℤ (k *ℤ n)) (some_square s t alike) (square_up s) (square_up t) (over _ _ far_q) (over _ _ far_p))
    (product_up (s *ℤ t) (((i *ℤ n) -ℤ (p *ℤ q)) +ℤ ((i *ℤ n) -ℤ (p *ℤ q))) (alike_up s t alike) (twice_over (p *ℤ q) (i *ℤ n) small))

not_both_ways : (a b : ℤ) → a <ℤ b → b ≤ℤ a → ⊥
not_both_ways a b h k = omega (arith, ints)

-- so it is far from each line that lies past both sides or short of both
pub far_outside : (a b c d u v x y n : ℤ) → pos 0 ≤ℤ n → Alike (plane_product a b u v) (plane_product c d u v)
    → pos 0 ≤ℤ plane_product a b x y → plane_product c d x y ≤ℤ pos 0
    → (length_squared a b *ℤ n) <ℤ square (plane_product a b x y)
    → (length_squared c d *ℤ n) <ℤ square (plane_product c d x y)
    → IsNearLine u v x y n → ⊥
far_outside a b c d u v x y n hn alike hp hq far_p far_q near =
    let m = plane_product a b c d in
    let s = plane_product a b u v in
    let t = plane_product c d u v in
    let long = scaled_near m u v x y n near in
    let turned = subst (λ w. IsNearLine ((s *ℤ c) -ℤ (t *ℤ a)) w x y n) (turned_y a b c d u v)
    (subst (λ w. IsNearLine w (m *ℤ v) x y n) (turned_x a b c d u v) long) in
    not_both_ways _ _ (far_mixed s t a b c d x y n alike hn hp hq far_p far_q) turned
