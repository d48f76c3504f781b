-- The laws of the plane's products.
use Rattle.std.proofs.Common.{◌≡◌, ℕ, ℤ, pos, ◌+ℤ◌, ◌-ℤ◌, ◌*ℤ◌, ◌≤ℤ◌, arith, refl, ◌∙◌}
use Rattle.std.proofs.lemmas.Int.{ints}
use borrow.Author.Differences.{up, down}
use lib.IntN.{neg_ℤ, *ℤ_comm}
use Rattle.sky_vector.specs.Points.{Point, square, chord_squared}
use Rattle.sky_vector.specs.Plane.{plane_product, length_squared}
use Rattle.sky_vector.specs.Laws.{PlaneLaw, ThreeTerms, NearAcross, SameChord}
use Rattle.sky_vector.proofs.Signed.{of, whole, of-same, of-zero, differences, square_up, mul_mono, over_by}

-- the next one at differences
lagrange_of : (a a' b b' u u' v v' : ℕ)
    → square ((of a a' *ℤ of u u') +ℤ (of b b' *ℤ of v v')) +ℤ square (plane_product (of a a') (of b b') (of u u') (of v v'))
    ≡ length_squared (of a a') (of b b') *ℤ length_squared (of u u') (of v v')
lagrange_of a a' b b' u u' v v' = simp differences (of-same _ _ _ _ (omega arith))

-- Lagrange's identity: the two products of two directions, squared, sum to the product of the squared lengths
lagrange : (a b u v : ℤ)
    → square ((a *ℤ u) +ℤ (b *ℤ v)) +ℤ square (plane_product a b u v) ≡ length_squared a b *ℤ length_squared u v
lagrange a b u v =
    rw (whole a, whole b, whole u, whole v) (lagrange_of (up a) (down a) (up b) (down b) (up u) (down u) (up v) (down v))

-- a part of a sum is at most the sum where the other part is not below 0
at_most : (x y z : ℤ) → x +ℤ y ≡ z → pos 0 ≤ℤ y → x ≤ℤ z
at_most x y z e h = omega (arith, ints)

-- the same for the other part
at_most_left : (x y z : ℤ) → x +ℤ y ≡ z → pos 0 ≤ℤ x → y ≤ℤ z
at_most_left x y z e h = omega (arith, ints)

-- the law of the plane: a square is not below 0
pub plane_law : PlaneLaw
plane_law a b u v = at_most _ _ _ (lagrange a b u v) (square_up (plane_product a b u v))

-- the next one at differences
three_of : (ax ax' ay ay' bx bx' by by' cx cx' cy cy' dx dx' dy dy' : ℕ)
    → (plane_product (of ax ax') (of ay ay') (of bx bx') (of by by') *ℤ plane_product (of cx cx') (of cy cy') (of dx dx') (of dy dy'))
    +ℤ (plane_product (of bx bx') (of by by') (of cx cx') (of cy cy') *ℤ plane_product (of ax ax') (of ay ay') (of dx dx') (of dy dy'))
    +ℤ (plane_product (of cx cx') (of cy cy') (of ax ax') (of ay ay') *ℤ plane_product (of bx bx') (of by by') (of dx dx') (of dy dy'))
    ≡ of 0 0
three_of ax ax' ay ay' bx bx' by by' cx cx' cy cy' dx dx' dy dy' = simp differences (of-same _ _ _ _ (omega arith))

-- the identity in three terms
pub three_terms : ThreeTerms
three_terms ax ay bx by cx cy dx dy =
    rw (whole ax, whole ay, whole bx, whole by, whole cx, whole cy, whole dx, whole dy)
    (three_of (up ax) (down ax) (up ay) (down ay) (up bx) (down bx) (up by) (down by)
    (up cx) (down cx) (up cy) (down cy) (up dx) (down dx) (up dy) (down dy)
    ∙ of-zero)

-- the plane product is at most the product of the lengths, said by squares
pub product_law : (a b u v : ℤ) → square (plane_product a b u v) ≤ℤ (length_squared a b *ℤ length_squared u v)
product_law a b u v = at_most_left _ _ _ (lagrange a b u v) (square_up ((a *ℤ u) +ℤ (b *ℤ v)))

-- the next one at differences
gap_of : (dx dx' dy dy' x x' y y' u u' v v' : ℕ)
    → plane_product (of dx dx') (of dy dy') (of x x') (of y y') -ℤ plane_product (of dx dx') (of dy dy') (of u u') (of v v')
    ≡ plane_product (of dx dx') (of dy dy') (of x x' -ℤ of u u') (of y y' -ℤ of v v')
gap_of dx dx' dy dy' x x' y y' u u' v v' = simp differences (of-same _ _ _ _ (omega arith))

-- the product with a difference is the difference of the products
pub plane_product-sub : (dx dy x y u v : ℤ)
    → plane_product dx dy x y -ℤ plane_product dx dy u v ≡ plane_product dx dy (x -ℤ u) (y -ℤ v)
plane_product-sub dx dy x y u v =
    rw (whole dx, whole dy, whole x, whole y, whole u, whole v)
    (gap_of (up dx) (down dx) (up dy) (down dy) (up x) (down x) (up y) (down y) (up u) (down u) (up v) (down v))

-- the square of a difference at differences: what it has beside the first square
first_of : (a a' b b' : ℕ)
    → square (of a a' -ℤ of b b')
    ≡ square (of a a') +ℤ (((of a a' +ℤ of a a') *ℤ neg_ℤ (of b b')) +ℤ (neg_ℤ (of b b') *ℤ neg_ℤ (of b b')))
first_of a a' b b' = simp differences (of-same _ _ _ _ (omega arith))

-- and what it has beside the second
second_of : (a a' b b' : ℕ)
    → square (of a a' -ℤ of b b')
    ≡ square (of b b') +ℤ (((of a a' +ℤ of a a') *ℤ neg_ℤ (of b b')) +ℤ (of a a' *ℤ of a a'))
second_of a a' b b' = simp differences (of-same _ _ _ _ (omega arith))

-- of two numbers on different sides of 0, the square of the first is at most that of their difference
first_below : (a b : ℤ) → pos 0 ≤ℤ a → b ≤ℤ pos 0 → square a ≤ℤ square (a -ℤ b)
first_below a b h k =
    let twice : pos 0 ≤ℤ (a +ℤ a) = omega (arith, ints) in
    let other : pos 0 ≤ℤ neg_ℤ b = omega (arith, ints) in
    over_by (a +ℤ a) (neg_ℤ b) (neg_ℤ b) (neg_ℤ b) _ _
    (rw (whole a, whole b) (first_of (up a) (down a) (up b) (down b))) twice other other other

-- and so is that of the second
second_below : (a b : ℤ) → pos 0 ≤ℤ a → b ≤ℤ pos 0 → square b ≤ℤ square (a -ℤ b)
second_below a b h k =
    let twice : pos 0 ≤ℤ (a +ℤ a) = omega (arith, ints) in
    let other : pos 0 ≤ℤ neg_ℤ b = omega (arith, ints) in
    over_by (a +ℤ a) (neg_ℤ b) a a _ _
    (rw (whole a, whole b) (second_of (up a) (down a) (up b) (down b))) twice other h h

-- a squared length is not below 0
pub length_up : (a b : ℤ) → pos 0 ≤ℤ length_squared a b
length_up a b =
    let x = square_up a in
    let y = square_up b in omega (arith, ints, x, y)

-- in the plane two points are no farther apart than in space
flat_chord : (p q : Point) → length_squared (p.x -ℤ q.x) (p.y -ℤ q.y) ≤ℤ chord_squared p q
flat_chord p q = let height = square_up (p.z -ℤ q.z) in omega (arith, ints, height)

-- the products with two points are no farther apart than their chord allows
across : (dx dy : ℤ) (p q : Point) (n : ℤ) → chord_squared p q ≤ℤ n
    → square (plane_product dx dy p.x p.y -ℤ plane_product dx dy q.x q.y) ≤ℤ (length_squared dx dy *ℤ n)
across dx dy p q n h =
    let flat = flat_chord p q in
    let near : length_squared (p.x -ℤ q.x) (p.y -ℤ q.y) ≤ℤ n = omega (arith, ints, flat, h) in
    let law = product_law dx dy (p.x -ℤ q.x) (p.y -ℤ q.y) in
    let scaled = mul_mono _ n (length_squared dx dy) near (length_up dx dy) in
    let turned = *ℤ_comm (length_squared dx dy) (length_squared (p.x -ℤ q.x) (p.y -ℤ q.y)) in
    let turned_n = *ℤ_comm (length_squared dx dy) n in
    rw (plane_product-sub dx dy p.x p.y q.x q.y) (omega (arith, ints, law, scaled, turned, turned_n))

-- two comparisons in a row
no_more : (a b c : ℤ) → a ≤ℤ b → b ≤ℤ c → a ≤ℤ c
no_more a b c h k = omega (arith, ints)

-- of two points on different sides of a line, each is near it
pub near_across : NearAcross
near_across dx dy p q n h k c = (
  no_more _ _ _ (first_below _ _ h k) (across dx dy p q n c),
  no_more _ _ _ (second_below _ _ h k) (across dx dy p q n c),
)

-- the next one at differences
square_turned_of : (a a' b b' : ℕ) → square (of a a' -ℤ of b b') ≡ square (of b b' -ℤ of a a')
square_turned_of a a' b b' = simp differences (of-same _ _ _ _ (omega arith))

-- the square of a difference is that of the opposite one
square_turned : (a b : ℤ) → square (a -ℤ b) ≡ square (b -ℤ a)
square_turned a b = rw (whole a, whole b) (square_turned_of (up a) (down a) (up b) (down b))

-- a chord is as long from either end
pub same_chord : SameChord
same_chord p q = rw (square_turned p.x q.x, square_turned p.y q.y, square_turned p.z q.z) refl
