-- What is no farther than a radius from a point of a part of the sky is in the part's near region for that radius.
use Rattle.std.proofs.Common.{◌≡◌, ℕ, ℤ, pos, ◌+ℤ◌, ◌-ℤ◌, ◌*ℤ◌, ◌≤ℤ◌, arith, refl, inl, inr, Bool, true, false, cond, int_le, int_lt, ◌&&◌, ◌||◌, Option, None, Some}
use Rattle.std.proofs.lemmas.Bool.{and_parts, and_from, or_left, or_right}
use Rattle.std.proofs.lemmas.Int.{ints}
use borrow.Author.Differences.{up, down}
use Rattle.sky_vector.specs.Points.{Point, square, chord_squared}
use Rattle.sky_vector.proofs.Signed.{of, whole, of-same, differences, product_up, square_up}
use Rattle.sky_vector.proofs.Plane.{near_across, same_chord}
use Rattle.wedge_rules.specs.Heading.{Direction, past}
use Rattle.wedge_rules.proofs.Products.{int_cases, product_above}
use Rattle.wedge_rules.proofs.Tests.{le_from, le_to, lt_from, lt_to, eq_from}
use Rattle.wedge_rules.proofs.Fine.{past_axis}
use Rattle.sky_rules.specs.Bounds.{Bounds, Sides, in_sides, near_sides, near_side, near_bounds, is_on_axis}
use Rattle.sky_rules.proofs.Bounds.{Holds}

-- the next one at differences
square_over_of : (a a' r r' : ℕ) → square (of a a') ≡ square (of r r') +ℤ (((of a a' -ℤ of r r') *ℤ of a a') +ℤ (of r r' *ℤ (of a a' -ℤ of r r')))
square_over_of a a' r r' = simp differences (of-same _ _ _ _ (omega arith))

-- the square of a greater number, as that of a smaller one and what is over
square_over : (a r : ℤ) → square a ≡ square r +ℤ (((a -ℤ r) *ℤ a) +ℤ (r *ℤ (a -ℤ r)))
square_over a r = rw (whole a, whole r) (square_over_of (up a) (down a) (up r) (down r))

-- a number whose square is at most that of r is at most r
pub below_root : (a r : ℤ) → pos 0 ≤ℤ r → square a ≤ℤ square r → a ≤ℤ r
below_root a r up_r h = elim (int_cases r a) [
  | inl l ↦
      let first = product_above (a -ℤ r) a (omega (arith, ints, l)) (omega (arith, ints, l, up_r)) in
      let second = product_up r (a -ℤ r) up_r (omega (arith, ints, l)) in
      let over = square_over a r in omega (arith, ints, first, second, over, h)
  | inr l ↦ l
]

-- a point so near in space is so near in height
height_near : (u v : Point) (n : ℤ) → chord_squared u v ≤ℤ n → square (u.z -ℤ v.z) ≤ℤ n
height_near u v n h =
    let x = square_up (u.x -ℤ v.x) in
    let y = square_up (u.y -ℤ v.y) in omega (arith, ints, h, x, y)

-- a point whose product with the first side is from 0 on: what is near it is past the side or near it
first_near : (r : ℕ) (d : Direction) (u v : Point) → pos 0 ≤ℤ past d u.x u.y → chord_squared u v ≤ℤ square (pos r)
    → (int_le (pos 0) (past d v.x v.y) || near_side r d v) ≡ true
first_near r d u v h c = elim (int_cases (past d v.x v.y) (pos 0)) [
  | inl l ↦ or_right _ _ (le_to _ _ (near_across d.dx d.dy u v (square (pos r)) h (omega (arith, ints, l)) c).1)
  | inr l ↦ or_left _ _ (le_to _ _ l)
]

-- the same with the second side, and what is short of it
second_near : (r : ℕ) (d : Direction) (u v : Point) → past d u.x u.y ≤ℤ pos 0 → chord_squared v u ≤ℤ square (pos r)
    → (int_lt (past d v.x v.y) (pos 0) || near_side r d v) ≡ true
second_near r d u v h c = elim (int_cases (past d v.x v.y) (pos 0)) [
  | inl l ↦ or_left _ _ (lt_to _ _ l)
  | inr l ↦ or_right _ _ (le_to _ _ (near_across d.dx d.dy v u (square (pos r)) l h c).0)
]

-- a point on the axis or between two sides is not short of the first and not past the second
between_sides : (d e : Direction) (axis on : Bool) (u : Point) → is_on_axis u ≡ on
    → cond on axis (int_le (pos 0) (past d u.x u.y) && int_lt (past e u.x u.y) (pos 0)) ≡ true
    → (pos 0 ≤ℤ past d u.x u.y) × (past e u.x u.y ≤ℤ pos 0)
between_sides d e axis true u on h =
    let parts = and_parts _ _ on in
    let x = eq_from u.x (pos 0) parts.0 in
    let y = eq_from u.y (pos 0) parts.1 in
    let first = past_axis d.dx d.dy u.x u.y x y in
    let second = past_axis e.dx e.dy u.x u.y x y in (omega (arith, ints, first), omega (arith, ints, second))
between_sides d e axis false u on h =
    let parts = and_parts _ _ h in
    let first = le_from (pos 0) (past d u.x u.y) parts.0 in
    let second = lt_from (past e u.x u.y) (pos 0) parts.1 in (first, omega (arith, ints, second))

-- what is near a point between the sides is between them or near one
sides_near : (r : ℕ) (sides : Option Sides) (axis : Bool) (u v : Point) → in_sides sides axis u ≡ true
    → chord_squared u v ≤ℤ square (pos r) → near_sides r sides v ≡ true
sides_near r None axis u v h c = refl
sides_near r (Some sides) axis u v h c =
    let place = between_sides sides.first sides.second axis (is_on_axis u) u refl h in
    let back = same_chord u v in
    and_from _ _ (first_near r sides.first u v place.0 c) (second_near r sides.second u v place.1 (omega (arith, ints, back, c)))

-- two numbers no farther apart than r
apart : (a b r : ℤ) → pos 0 ≤ℤ r → square (a -ℤ b) ≤ℤ square r → square (b -ℤ a) ≤ℤ square r → ((a -ℤ r) ≤ℤ b) × (b ≤ℤ (a +ℤ r))
apart a b r up_r h k =
    let one = below_root (a -ℤ b) r up_r h in
    let other = below_root (b -ℤ a) r up_r k in (omega (arith, ints, one), omega (arith, ints, other))

-- what is no farther than r from a point of a part of the sky is in its near region for r
pub near_from : (r : ℕ) (bounds : Bounds) (u v : Point) → Holds bounds u → chord_squared u v ≤ℤ square (pos r) → near_bounds r bounds v ≡ true
near_from r bounds u v held c =
    let back = same_chord u v in
    let turned : chord_squared v u ≤ℤ square (pos r) = omega (arith, ints, back, c) in
    let z : ((u.z -ℤ pos r) ≤ℤ v.z) × (v.z ≤ℤ (u.z +ℤ pos r)) = apart u.z v.z (pos r) (omega (arith, ints)) (height_near u v (square (pos r)) c) (height_near v u (square (pos r)) turned) in
    let low = held.low in
    let high = held.high in
    let above = le_to (bounds.z_low -ℤ pos r) v.z (omega (arith, ints, z.0, low)) in
    let below = le_to v.z (bounds.z_high +ℤ pos r) (omega (arith, ints, z.1, high)) in
    and_from _ _ (and_from _ _ above below)
    (sides_near r bounds.sides bounds.axis u v held.sides c)
