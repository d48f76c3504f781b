-- What lies outside of a window and of its opposite is not near.
use Rattle.std.proofs.Common.{◌≡◌, ℕ, ℤ, pos, ◌+◌, ◌*◌, ◌≤◌, ◌<◌, ◌≤ℤ◌, ◌<ℤ◌, ◌*ℤ◌, arith, refl, ◌∙◌, subst, inl, inr, Bool, true, false, cond, nat_eq, int_le, int_lt, ◌&&◌, ◌||◌, eqb-true, None, Some}
use Rattle.std.proofs.lemmas.Bool.{and_parts}
use Rattle.std.proofs.lemmas.Int.{ints}
use Rattle.sky_vector.specs.Points.{Point, square}
use Rattle.sky_vector.specs.Plane.{plane_product, length_squared}
use Rattle.sky_vector.proofs.Signed.{product_up, square_up}
use Rattle.sky_vector.proofs.Plane.{length_up}
use Rattle.wedge_rules.specs.Heading.{Direction, heading, walk, past, LiesBetween}
use Rattle.wedge_rules.specs.Wedge.{InWedge, whole, axis, between}
use Rattle.wedge_rules.proofs.Tests.{le_from, lt_from}
use Rattle.wedge_rules.proofs.Products.{int_cases}
use Rattle.wedge_rules.proofs.Places.{IsOffAxis, has_place}
use Rattle.wedge_rules.proofs.Quarters.{SignAt}
use Rattle.wedge_rules.proofs.OneWedge.{IsStep, here, round as round_step, is_step, holds_between, only_at, step_end}
use Rattle.wedge_rules.proofs.Fine.{past_axis}
use Rattle.wedge_rules.proofs.Exactly.{exactly_one_wedge}
use Rattle.sky_rules.specs.Bounds.{near_side, near_sides, sides_of}
use Rattle.overlap_tables.specs.Windows.{IsNarrow, straight, round, IsBetween, inside, behind_first, before_second, IsWindow, IsGap, gap_below_opposite, gap_before, gap_after, gap_above_opposite, gap_whole_opposite_back, gap_whole_opposite_on, gap_round_after, gap_round_before}
use Rattle.overlap_tables.proofs.FarLines.{far_outside}
use Rattle.overlap_tables.proofs.Turns.{IsBeyond, opposite_below, before, after, opposite_above, round_after, round_before, direct, beyond_alike}

-- a line that a point is not near is far
far_from : (a b : ℤ) → int_le a b ≡ false → b <ℤ a
far_from a b h = grind (arith, ints)

-- what lies short of a direction is off the axis
off_axis : (a b x y : ℤ) → plane_product a b x y <ℤ pos 0 → IsOffAxis x y
off_axis a b x y h = elim (int_cases x (pos 0)) [
  | inl l ↦ inl (inl l)
  | inr l ↦ elim (int_cases (pos 0) x) [
    | inl l' ↦ inl (inr l')
    | inr l' ↦ elim (int_cases y (pos 0)) [
      | inl k ↦ inr (inl k)
      | inr k ↦ elim (int_cases (pos 0) y) [
        | inl k' ↦ inr (inr k')
        | inr k' ↦ let e = past_axis a b x y (omega (arith, ints, l, l')) (omega (arith, ints, k, k')) in inr (inr (omega (arith, ints, e, h)))
      ]
    ]
  ]
]

-- where a point has its place in wedge k, it lies between the two sides of a way that wedge k is on
holds_wide : (n : ℕ) (there : ℤ) (s k a b : ℕ) (z w : ℤ) → a < n → b ≤ n → IsNarrow n a b → IsBetween n a b k → IsStep n there s
    → 8 * k ≤ s → s < 8 * k + 8 → s < 8 * n → SignAt n there (8 * a) z → SignAt n there (8 * b) w → (pos 0 ≤ℤ z) × (w <ℤ pos 0)
holds_wide n there s k a b z w ha hb narrow (inside low high) step lo up' end p q =
    let near = direct n a b narrow (omega (arith, low, high)) in
    holds_between n there s (8 * a) (8 * b) z w (omega (arith, near)) step (omega (arith, lo, low)) (omega (arith, up', high)) p q
holds_wide n there s k a b z w ha hb narrow (behind_first wide low) (here e hi) lo up' end p q = (
  p.up (omega (arith, ints, e, end, wide)) (omega (arith, ints, e, lo, low)),
  q.far_down (omega (arith, ints, e, wide, lo, low)),
)
holds_wide n there s k a b z w ha hb narrow (behind_first wide low) (round_step e neg from) lo up' end p q = (
  p.up_again (omega (arith, ints, e, wide, neg)) (omega (arith, ints, e, lo, low)),
  q.down (omega (arith, ints, neg)) (omega (arith, ints, e, wide, lo, low)),
)
holds_wide n there s k a b z w ha hb narrow (before_second wide high) (here e hi) lo up' end p q = (
  p.up_again (omega (arith, ints, e, wide, up', high)) (omega (arith, ints, e, ha)),
  q.down (omega (arith, ints, e, up', high)) (omega (arith, ints, e, wide, ha)),
)
holds_wide n there s k a b z w ha hb narrow (before_second wide high) (round_step e neg from) lo up' end p q =
    absurd (omega (arith, ints, e, from, wide, up', high, ha))

-- so does a point between the directions of wedge k
abbrev Wider : Type 0
Wider = (n k a b : ℕ) (x y : ℤ) → 3 ≤ n → k < n → LiesBetween n k x y → a < n → b ≤ n → IsNarrow n a b → IsBetween n a b k
    → (pos 0 ≤ℤ past (heading n a) x y) × (past (heading n b) x y <ℤ pos 0)

wider : Wider
unfolding heading
wider n k a b x y some there h ha hb narrow way =
    let off = off_axis _ _ x y h.1 in
    let hn : 0 < n = omega (arith, some) in
    let f = has_place n x y hn off in
    let v = is_step n f.0 f.1.from f.1.to in
    let o = only_at n f.0 v.0 k _ _ some there v.1 (f.1.signs (8 * k) (omega (arith, there))) (f.1.signs (8 * (k + 1)) (omega (arith, there))) h.0 h.1 in
    holds_wide n f.0 v.0 k a b _ _ ha hb narrow way v.1 o.0 o.1 (step_end n f.0 v.0 hn v.1)
    (f.1.signs (8 * a) (omega (arith, ha))) (f.1.signs (8 * b) (omega (arith, hb)))

-- a side that a point is not near is far: its squared product is larger
side_clear : (r : ℕ) (d : Direction) (p : Point) → near_side r d p ≡ false
    → (length_squared d.dx d.dy *ℤ square (pos r)) <ℤ square (plane_product d.dx d.dy p.x p.y)
side_clear r d p h = far_from (square (plane_product d.dx d.dy p.x p.y)) (length_squared d.dx d.dy *ℤ square (pos r)) h

-- so the point is not on the axis
axis_near : (r : ℕ) (d : Direction) (p : Point) → near_side r d p ≡ false → p.x ≡ pos 0 → p.y ≡ pos 0 → ⊥
axis_near r d p h e f =
    let far = side_clear r d p h in
    let line = past_axis d.dx d.dy p.x p.y e f in
    let none : square (plane_product d.dx d.dy p.x p.y) ≡ pos 0 = rw line refl in
    let long = product_up (length_squared d.dx d.dy) (square (pos r)) (length_up d.dx d.dy) (square_up (pos r)) in
    omega (arith, ints, far, none, long)

-- less than half a turn takes three wedges or more for the whole
narrow_some : (n a b : ℕ) → a < n → IsNarrow n a b → 3 ≤ n
narrow_some n a b ha (straight h k) = omega (arith, h, k)
narrow_some n a b ha (round h) = omega (arith, h, ha)

between_by : (n r a b k : ℕ) (p : Point) → IsWindow n r a b p → k < n → IsBetween n a b k → InWedge n k p.x p.y
    → (pos 0 ≤ℤ past (heading n a) p.x p.y) × (past (heading n b) p.x p.y <ℤ pos 0)
between_by n r a b k p is hk way (whole e f) = let some = narrow_some n a b is.first_there is.narrow in absurd (omega (arith, e, some))
between_by n r a b k p is hk way (axis some e f g) = absurd (axis_near r (heading n a) p is.first_far e f)
between_by n r a b k p is hk way (between some h) = wider n k a b p.x p.y some hk h is.first_there is.second_there is.narrow way

-- a point of a window lies between its two sides
point_between : (n r a b : ℕ) (p : Point) → IsWindow n r a b p → (pos 0 ≤ℤ past (heading n a) p.x p.y) × (past (heading n b) p.x p.y <ℤ pos 0)
point_between n r a b p is = between_by n r a b is.own.0 p is is.own.1 is.own.2 is.own.3

side_by : (n r a b j : ℕ) (p : Point) (test : Bool) → IsWindow n r a b p → j ≤ n → IsBeyond n a b j → near_side r (heading n j) p ≡ test
    → near_side r (heading n j) p ≡ false
unfolding heading
side_by n r a b j p true is hj beyond near =
    let at = point_between n r a b p is in
    let far_a = side_clear r (walk n (8 * a)) p is.first_far in
    let far_b = side_clear r (walk n (8 * b)) p is.second_far in
    let second = at.1 in
    let alike = beyond_alike n a b j is.narrow is.first_there is.second_there hj beyond in
    absurd (far_outside (walk n (8 * a)).dx (walk n (8 * a)).dy (walk n (8 * b)).dx (walk n (8 * b)).dy (walk n (8 * j)).dx (walk n (8 * j)).dy p.x p.y (square (pos r))
    (square_up (pos r)) alike at.0 (omega (arith, ints, second)) far_a far_b (le_from _ _ near))
side_by n r a b j p false is hj beyond near = near

-- a point of a window is far from each side outside of it and of its opposite
pub side_far : (n r a b j : ℕ) (p : Point) → IsWindow n r a b p → j ≤ n → IsBeyond n a b j → near_side r (heading n j) p ≡ false
side_far n r a b j p is hj beyond = side_by n r a b j p _ is hj beyond refl

or_none : (b : Bool) → b || false ≡ b
or_none true = refl
or_none false = refl

sides_by : (n r k : ℕ) (p : Point) (one : Bool) → nat_eq n 1 ≡ one → 3 ≤ n
    → near_side r (heading n k) p ≡ false → near_side r (heading n (k + 1)) p ≡ false
    → near_sides r (cond one None (Some (record { first = heading n k; second = heading n (k + 1) }))) p
    ≡ int_le (pos 0) (past (heading n k) p.x p.y) && int_lt (past (heading n (k + 1)) p.x p.y) (pos 0)
sides_by n r k p true e some h l = let one = eqb-true n 1 e in absurd (omega (arith, one, some))
sides_by n r k p false e some h l =
    rw (h, l, or_none (int_le (pos 0) (past (heading n k) p.x p.y)), or_none (int_lt (past (heading n (k + 1)) p.x p.y) (pos 0))) refl

-- where a point is far from both sides of a wedge, it is near the wedge only if it lies between them
sides_apart : (n r k : ℕ) (p : Point) → 3 ≤ n → near_side r (heading n k) p ≡ false → near_side r (heading n (k + 1)) p ≡ false
    → near_sides r (sides_of n k) p ≡ int_le (pos 0) (past (heading n k) p.x p.y) && int_lt (past (heading n (k + 1)) p.x p.y) (pos 0)
sides_apart n r k p some h l = sides_by n r k p _ refl some h l

first_beyond : (n a b k : ℕ) → IsGap n a b k → IsBeyond n a b k
first_beyond n a b k (gap_below_opposite g h) = opposite_below g (omega (arith, h))
first_beyond n a b k (gap_before g h l) = before g (omega (arith, h)) l
first_beyond n a b k (gap_after g h l) = after g h (omega (arith, l))
first_beyond n a b k (gap_above_opposite g h) = opposite_above g h
first_beyond n a b k (gap_whole_opposite_back g h l m) = opposite_below g l
first_beyond n a b k (gap_whole_opposite_on g h l m) = after g h l
first_beyond n a b k (gap_round_after g h l) = round_after g h (omega (arith, l))
first_beyond n a b k (gap_round_before g h l) = round_before g h (omega (arith, l))

second_beyond : (n a b k : ℕ) → IsGap n a b k → IsBeyond n a b (k + 1)
second_beyond n a b k (gap_below_opposite g h) = opposite_below g h
second_beyond n a b k (gap_before g h l) = before g h (omega (arith, l))
second_beyond n a b k (gap_after g h l) = after g (omega (arith, h)) l
second_beyond n a b k (gap_above_opposite g h) = opposite_above g (omega (arith, h))
second_beyond n a b k (gap_whole_opposite_back g h l m) = before g h m
second_beyond n a b k (gap_whole_opposite_on g h l m) = opposite_above g m
second_beyond n a b k (gap_round_after g h l) = round_after g (omega (arith, h)) l
second_beyond n a b k (gap_round_before g h l) = round_before g (omega (arith, h)) l

-- so it is not on the way
not_inside : (n a b k : ℕ) → b ≤ n → k < n → IsGap n a b k → IsBetween n a b k → ⊥
not_inside n a b k hb hk (gap_below_opposite g h) (inside low high) = omega (arith, h, low)
not_inside n a b k hb hk (gap_below_opposite g h) (behind_first wide low) = omega (arith, g, wide)
not_inside n a b k hb hk (gap_below_opposite g h) (before_second wide high) = omega (arith, g, wide)
not_inside n a b k hb hk (gap_before g h l) (inside low high) = omega (arith, h, low)
not_inside n a b k hb hk (gap_before g h l) (behind_first wide low) = omega (arith, g, wide)
not_inside n a b k hb hk (gap_before g h l) (before_second wide high) = omega (arith, g, wide)
not_inside n a b k hb hk (gap_after g h l) (inside low high) = omega (arith, h, high)
not_inside n a b k hb hk (gap_after g h l) (behind_first wide low) = omega (arith, g, wide)
not_inside n a b k hb hk (gap_after g h l) (before_second wide high) = omega (arith, g, wide)
not_inside n a b k hb hk (gap_above_opposite g h) (inside low high) = omega (arith, h, high)
not_inside n a b k hb hk (gap_above_opposite g h) (behind_first wide low) = omega (arith, g, wide)
not_inside n a b k hb hk (gap_above_opposite g h) (before_second wide high) = omega (arith, g, wide)
not_inside n a b k hb hk (gap_whole_opposite_back g h l m) (inside low high) = omega (arith, h, low)
not_inside n a b k hb hk (gap_whole_opposite_back g h l m) (behind_first wide low) = omega (arith, g, wide)
not_inside n a b k hb hk (gap_whole_opposite_back g h l m) (before_second wide high) = omega (arith, g, wide)
not_inside n a b k hb hk (gap_whole_opposite_on g h l m) (inside low high) = omega (arith, h, high)
not_inside n a b k hb hk (gap_whole_opposite_on g h l m) (behind_first wide low) = omega (arith, g, wide)
not_inside n a b k hb hk (gap_whole_opposite_on g h l m) (before_second wide high) = omega (arith, g, wide)
not_inside n a b k hb hk (gap_round_after g h l) (inside low high) = omega (arith, h, high)
not_inside n a b k hb hk (gap_round_after g h l) (behind_first wide low) = omega (arith, l, low)
not_inside n a b k hb hk (gap_round_after g h l) (before_second wide high) = omega (arith, h, high)
not_inside n a b k hb hk (gap_round_before g h l) (inside low high) = omega (arith, h, high)
not_inside n a b k hb hk (gap_round_before g h l) (behind_first wide low) = omega (arith, l, low)
not_inside n a b k hb hk (gap_round_before g h l) (before_second wide high) = omega (arith, h, high)

near_by : (n r a b k : ℕ) (p : Point) (test : Bool) → IsWindow n r a b p → 3 ≤ n → k < n → IsGap n a b k
    → int_le (pos 0) (past (heading n k) p.x p.y) && int_lt (past (heading n (k + 1)) p.x p.y) (pos 0) ≡ test → test ≡ false
near_by n r a b k p true is some hk gap h =
    let parts = and_parts (int_le (pos 0) (past (heading n k) p.x p.y)) (int_lt (past (heading n (k + 1)) p.x p.y) (pos 0)) h in
    let only = (exactly_one_wedge n p.x p.y (inr some)).3 in
    let mine = only is.own.0 is.own.1 is.own.3 in
    let other = only k hk (between some (le_from _ _ parts.0, lt_from _ _ parts.1)) in
    let same : is.own.0 ≡ k = omega (arith, mine, other) in
    absurd (not_inside n a b k is.second_there hk gap (subst (λ j. IsBetween n a b j) same is.own.2))
near_by n r a b k p false is some hk gap h = refl

-- a point of a window is near no wedge outside of it and of its opposite
pub gap_not_near : (n r a b k : ℕ) (p : Point) → IsWindow n r a b p → k < n → IsGap n a b k → near_sides r (sides_of n k) p ≡ false
gap_not_near n r a b k p is hk gap =
    let some = narrow_some n a b is.first_there is.narrow in
    let first = side_far n r a b k p is (omega (arith, hk)) (first_beyond n a b k gap) in
    let second = side_far n r a b (k + 1) p is (omega (arith, hk)) (second_beyond n a b k gap) in
    sides_apart n r k p some first second ∙ near_by n r a b k p _ is some hk gap refl
