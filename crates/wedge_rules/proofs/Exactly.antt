-- Exactly one wedge and exactly one fine wedge, with the axis and the single wedge.
use Rattle.std.proofs.Common.{◌≡◌, ℕ, ℤ, pos, ◌+◌, ◌*◌, ◌/◌, ◌-◌, ◌≤◌, ◌<◌, arith, refl, sym, ap, subst, inl, inr}
use Rattle.std.proofs.Math.Nat.{lt-div-mul-add, div-mul-le_self}
use Rattle.std.proofs.lemmas.Bool.{cases_lt}
use Rattle.std.proofs.lemmas.Int.{ints}
use Rattle.wedge_rules.specs.Heading.{heading, LiesBetween}
use Rattle.wedge_rules.specs.Wedge.{InWedge, whole, axis, between}
use Rattle.wedge_rules.specs.Laws.{ExactlyOneWedge, FineLiesInItsWedge, ExactlyOneFineWedge}
use Rattle.wedge_rules.proofs.Products.{int_cases, times_le, times_lt}
use Rattle.wedge_rules.proofs.Places.{IsOffAxis}
use Rattle.wedge_rules.proofs.OneWedge.{one_between}
use Rattle.wedge_rules.proofs.Fine.{past_axis, fine_between}

-- a point is the axis or off it
data OnOrOff (x y : ℤ) : Type 0 where
  on_axis : x ≡ pos 0 → y ≡ pos 0 → OnOrOff x y
  off_axis : IsOffAxis x y → OnOrOff x y

-- each point is one of these
on_or_off : (x y : ℤ) → OnOrOff x y
on_or_off x y = elim (int_cases x (pos 0)) [
  | inl l ↦ off_axis (inl (inl l))
  | inr l ↦ elim (int_cases (pos 0) x) [
    | inl l' ↦ off_axis (inl (inr l'))
    | inr l' ↦ elim (int_cases y (pos 0)) [
      | inl k ↦ off_axis (inr (inl k))
      | inr k ↦ elim (int_cases (pos 0) y) [
        | inl k' ↦ off_axis (inr (inr k'))
        | inr k' ↦ on_axis (omega (arith, ints, l, l')) (omega (arith, ints, k, k'))
      ]
    ]
  ]
]

-- not both
off_not : (x y : ℤ) (a b : ℕ) → IsOffAxis x y → x ≡ pos 0 → y ≡ pos 0 → a ≡ b
off_not x y a b (inl (inl h)) e f = omega (arith, ints, h, e)
off_not x y a b (inl (inr h)) e f = omega (arith, ints, h, e)
off_not x y a b (inr (inl h)) e f = omega (arith, ints, h, f)
off_not x y a b (inr (inr h)) e f = omega (arith, ints, h, f)

-- only wedge 0 holds the axis
axis_only : (n j : ℕ) (x y : ℤ) → x ≡ pos 0 → y ≡ pos 0 → InWedge n j x y → j ≡ 0
axis_only n j x y e f (whole a b) = b
axis_only n j x y e f (axis a b c d) = d
axis_only n j x y e f (between a h) = let z = past_axis (heading n (j + 1)).dx (heading n (j + 1)).dy x y e f in let g = h.1 in omega (arith, ints, z, g)

-- only one wedge holds a point off the axis
off_only : (n j k : ℕ) (x y : ℤ) → 3 ≤ n → j < n → IsOffAxis x y → ((i : ℕ) → i < n → LiesBetween n i x y → i ≡ k) → InWedge n j x y → j ≡ k
off_only n j k x y hn hj off only (whole a b) = omega (arith, hn, a)
off_only n j k x y hn hj off only (axis a b c d) = off_not x y j k off b c
off_only n j k x y hn hj off only (between a h) = only j hj h

-- exactly one wedge holds a point, where there are three or more
exactly_off : (n : ℕ) (x y : ℤ) → 3 ≤ n → OnOrOff x y → (k : ℕ) × (k < n) × InWedge n k x y × ((j : ℕ) → j < n → InWedge n j x y → j ≡ k)
exactly_off n x y hn (on_axis e f) = (0, omega (arith, hn), axis hn e f refl, λ j hj w. axis_only n j x y e f w)
exactly_off n x y hn (off_axis off) = let o = one_between n x y hn off in (o.0, o.1, between hn o.2, λ j hj w. off_only n j o.0 x y hn hj off o.3 w)

-- and where there is one
pub exactly_one_wedge : ExactlyOneWedge
exactly_one_wedge n x y (inl e) = (0, omega (arith, e), whole e refl, λ j hj w. omega (arith, hj, e))
exactly_one_wedge n x y (inr h) = exactly_off n x y h (on_or_off x y)

-- a product with a number above 0 is 0 only by its other factor
no_steps : (w m : ℕ) → 0 < m → w * m ≡ 0 → w ≡ 0
no_steps w m hm e = elim (cases_lt 0 w) [
  | inl l ↦ let k = times_lt 0 w m l hm in omega (arith, k, e)
  | inr l ↦ omega (arith, l)
]

-- a fine wedge lies in its wedge, where there are three or more
fine_at : (c m w j : ℕ) (x y : ℤ) → 3 ≤ c → w < c → j < m → InWedge (c * m) (w * m + j) x y → InWedge c w x y
fine_at c m w j x y hc hw hj (whole a b) = let k = times_le 3 c m hc in whole (omega (arith, k, a, hj)) (omega (arith, k, a, hj))
fine_at c m w j x y hc hw hj (axis a b d e) = axis hc b d (no_steps w m (omega (arith, hj)) (omega (arith, e)))
fine_at c m w j x y hc hw hj (between a h) = between hc (fine_between c m w j x y hc hw hj h)

-- and where there is one
pub fine_lies_in_its_wedge : FineLiesInItsWedge
fine_lies_in_its_wedge c m w j x y (inl e) hw hj h = whole e (omega (arith, hw, e))
fine_lies_in_its_wedge c m w j x y (inr hc) hw hj h = fine_at c m w j x y hc hw hj h

-- a fine wedge's number tells its wedge and its column
same_row : (m w j v i : ℕ) → j < m → i < m → v * m + i ≡ w * m + j → (v ≡ w) × (i ≡ j)
same_row m w j v i hj hi e = elim (cases_lt v w) [
  | inl l ↦ let k = times_le (v + 1) w m (omega (arith, l)) in (omega (arith, k, e, hi), omega (arith, k, e, hi))
  | inr l ↦ elim (cases_lt w v) [
    | inl l' ↦ let k = times_le (w + 1) v m (omega (arith, l')) in (omega (arith, k, e, hj), omega (arith, k, e, hj))
    | inr l' ↦ let f : v ≡ w = omega (arith, l, l') in (f, let g : v * m ≡ w * m = ap (λ t. t * m) f in omega (arith, e, g))
  ]
]

-- exactly one fine wedge holds a point: its wedge by a division
pub exactly_one_fine_wedge : ExactlyOneFineWedge
exactly_one_fine_wedge c m x y hc hm hn =
    let o = exactly_one_wedge (c * m) x y hn in
    let k = o.0 in
    let w = k / m in
    let j = k - w * m in
    let low = div-mul-le_self k m in
    let high = lt-div-mul-add {a = k} hm in
    let hj : j < m = omega (arith, low, high) in
    let e : w * m + j ≡ k = omega (arith, low) in
    let less = o.1 in
    let hw : w < c = elim (cases_lt w c) [ inl l ↦ l | inr l ↦ let a = times_le c w m l in omega (arith, a, low, less) ] in
    let fine = subst (λ t. InWedge (c * m) t x y) (sym e) o.2 in (
      w,
      j,
      hw,
      hj,
      fine_lies_in_its_wedge c m w j x y hc hw hj fine,
      fine,
      λ v i hv hi h. let a = times_le (v + 1) c m (omega (arith, hv)) in let g = o.3 (v * m + i) (omega (arith, a, hi)) h in same_row m w j v i hj hi (omega (arith, g, e)),
    )
