-- The division that finds a wedge finds the one that the point lies in.
use Rattle.std.proofs.Common.{◌≡◌, ℕ, ℤ, pos, ◌+◌, ◌*◌, ◌/◌, ◌≤◌, ◌<◌, ◌+ℤ◌, ◌≤ℤ◌, ◌<ℤ◌, arith, subst, inl, inr, nat_abs, lt-ltb, le-ltb}
use Rattle.std.proofs.Math.Nat.{lt-div-mul-add, div-mul-le_self}
use Rattle.std.proofs.lemmas.Bool.{cases_lt}
use Rattle.std.proofs.lemmas.Int.{ints}
use lib.IntN.{neg_ℤ}
use Rattle.wedge_rules.specs.Heading.{heading}
use Rattle.wedge_rules.specs.Bearing.{from_middle, wedge_at, IsBearing}
use Rattle.sky_vector.proofs.Signed.{of}
use Rattle.wedge_rules.proofs.Products.{of-naturals}
use Rattle.wedge_rules.proofs.Sides.{OnRight}
use Rattle.wedge_rules.proofs.Walk.{at_step}
use Rattle.wedge_rules.proofs.Quarters.{place_right, place_top, place_left, place_bottom}
use Rattle.wedge_rules.proofs.Places.{HasPlace, IsOffAxis, right_nat, not_both}
use Rattle.wedge_rules.proofs.OneWedge.{IsStep, here, round, holds_between, step_end, eighth}

-- the size of a number from 0 on
pos_abs : (z : ℤ) → pos 0 ≤ℤ z → pos (nat_abs z) ≡ z
pos_abs z h = grind (arith, ints)

-- the steps from the lower corner of the right side
corner : ℕ → ℤ → ℤ → ℕ
corner n x y = n * nat_abs (y +ℤ x) / nat_abs x

-- a point of the right side has its step so many from the corner
right_at : (n : ℕ) (x y : ℤ) → 0 < n → neg_ℤ x ≤ℤ y → y <ℤ x → OnRight n (of (corner n x y) n) x y
unfolding corner
right_at n x y hn lo hi =
    let big = nat_abs x in
    let m = nat_abs (y +ℤ x) in
    let ax = pos_abs x (omega (arith, ints)) in
    let ay = pos_abs (y +ℤ x) (omega (arith, ints)) in
    let ex : of big 0 ≡ x = let e = of-naturals big 0 in omega (arith, ints, ax, e) in
    let ey : of m big ≡ y = let e = of-naturals m big in omega (arith, ints, ax, ay, e) in
    let hx : 0 < big = omega (arith, ints, ax) in
    let hm : m < 2 * big = omega (arith, ints, ax, ay) in
    let q = (n * m) / big in
    let p = right_nat n big m q hn hx hm (div-mul-le_self (n * m) big) (lt-div-mul-add hx) in
    subst (λ v. OnRight n (of q n) v y) ex (subst (λ v. OnRight n (of q n) (of big 0) v) ey p)

-- steps from the corner are a step of the walk
step_from_middle : (n q base : ℕ) → neg_ℤ (pos n) ≤ℤ (of q n +ℤ pos base) → (of q n +ℤ pos base) <ℤ pos (7 * n) → IsStep n (of q n +ℤ pos base) (from_middle n (q + base))
unfolding from_middle
step_from_middle n q base lo hi = let o = of-naturals q n in elim (cases_lt (q + base) n) [
  | inl a ↦ rw (lt-ltb (q + base) n a) (round (omega (arith, ints, o)) (omega (arith, ints, a, o)) lo)
  | inr a ↦ rw (le-ltb (q + base) n a) (here (omega (arith, ints, a, o)) hi)
]

-- the wedge that begins at or before the step has the point between its directions
bearing : (n s : ℕ) (x y there : ℤ) → 3 ≤ n → HasPlace n x y there → IsStep n there s → IsBearing n (s / 8) x y
unfolding heading
bearing n s x y there hn f w =
    let d = eighth s in
    let k = s / 8 in
    let end = step_end n there s (omega (arith, hn)) w in
    let hk : k < n = omega (arith, d.0, end) in
    record {
      inside = hk;
      between = holds_between n there s (8 * k) (8 * (k + 1)) _ _ (omega (arith, hn)) w d.0 (omega (arith, d.1)) (f.signs (8 * k) (omega (arith, hk))) (f.signs (8 * (k + 1)) (omega (arith, hk)));
    }

-- the same by steps from the corner, with the turn back
at_base : (n : ℕ) (x y ahead side : ℤ) (base : ℕ) → 3 ≤ n → HasPlace n x y (of (corner n ahead side) n +ℤ pos base) → IsBearing n (wedge_at n ahead side base) x y
unfolding wedge_at corner
at_base n x y ahead side base hn f = bearing n (from_middle n (corner n ahead side + base)) x y _ hn f (step_from_middle n (corner n ahead side) base f.from f.to)

-- the wedge of a point of the right quarter
pub wedge_right : (n : ℕ) (x y : ℤ) → 3 ≤ n → neg_ℤ x ≤ℤ y → y <ℤ x → IsBearing n (wedge_at n x y 0) x y
wedge_right n x y hn lo hi =
    let w = right_at n x y (omega (arith, hn)) lo hi in
    at_base n x y x y 0 hn (record { from = omega (arith, ints, w.from); to = omega (arith, ints, w.to, hn); signs = λ t h. place_right n t _ x y w (at_step n t h) })

-- of the upper quarter
pub wedge_top : (n : ℕ) (x y : ℤ) → 3 ≤ n → x ≤ℤ y → neg_ℤ x <ℤ y → IsBearing n (wedge_at n y (neg_ℤ x) (2 * n)) x y
wedge_top n x y hn lo hi =
    let w = right_at n y (neg_ℤ x) (omega (arith, hn)) (omega (arith, ints, lo)) hi in
    at_base n x y y (neg_ℤ x) (2 * n) hn (record { from = omega (arith, ints, w.from); to = omega (arith, ints, w.to, hn); signs = λ t h. place_top n t _ x y w (at_step n t h) })

-- of the left quarter
pub wedge_left : (n : ℕ) (x y : ℤ) → 3 ≤ n → y ≤ℤ neg_ℤ x → x <ℤ y → IsBearing n (wedge_at n (neg_ℤ x) (neg_ℤ y) (4 * n)) x y
wedge_left n x y hn lo hi =
    let w = right_at n (neg_ℤ x) (neg_ℤ y) (omega (arith, hn)) (omega (arith, ints, lo)) (omega (arith, ints, hi)) in
    at_base n x y (neg_ℤ x) (neg_ℤ y) (4 * n) hn (record { from = omega (arith, ints, w.from); to = omega (arith, ints, w.to, hn); signs = λ t h. place_left n t _ x y w (at_step n t h) })

-- of the lower quarter
pub wedge_bottom : (n : ℕ) (x y : ℤ) → 3 ≤ n → y ≤ℤ x → x <ℤ neg_ℤ y → IsBearing n (wedge_at n (neg_ℤ y) x (6 * n)) x y
wedge_bottom n x y hn lo hi =
    let w = right_at n (neg_ℤ y) x (omega (arith, hn)) (omega (arith, ints, lo)) hi in
    at_base n x y (neg_ℤ y) x (6 * n) hn (record { from = omega (arith, ints, w.from); to = omega (arith, ints, w.to, hn); signs = λ t h. place_bottom n t _ x y w (at_step n t h) })

-- of a point that is in none of the other three
pub last_quarter : (n : ℕ) (x y : ℤ) → 3 ≤ n → IsOffAxis x y → x ≤ℤ y → y ≤ℤ neg_ℤ x → y ≤ℤ x → IsBearing n (wedge_at n (neg_ℤ y) x (6 * n)) x y
last_quarter n x y hn off a b c = wedge_bottom n x y hn c (not_both x y off (omega (arith, ints, a, c)) b)
