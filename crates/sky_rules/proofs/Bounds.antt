-- Bounds as facts, and two sides as a wedge.
use Rattle.std.proofs.Common.{◌≡◌, ℕ, ℤ, pos, ◌+◌, ◌<◌, ◌≤ℤ◌, ◌<ℤ◌, arith, refl, sym, ◌∙◌, Bool, true, false, cond, nat_eq, ◌&&◌, int_le, int_lt, eqb-true, eq-eqb, None, Some}
use Rattle.std.proofs.lemmas.Bool.{and_parts, and_from}
use Rattle.std.proofs.lemmas.Int.{ints}
use Rattle.sky_vector.specs.Points.{Point}
use Rattle.wedge_rules.specs.Heading.{heading, past}
use Rattle.wedge_rules.specs.Wedge.{IsWedgeCount, InWedge, in_wedge}
use Rattle.wedge_rules.proofs.Tests.{le_from, le_to, test_is_the_fact}
use Rattle.sky_rules.specs.Bounds.{Bounds, sides_of, wedge_bounds, in_sides, in_bounds, is_on_axis}

-- a part of the sky holds a point: its z, and its direction
pub record Holds (bounds : Bounds) (p : Point) : Type 0 where
  pub low : bounds.z_low ≤ℤ p.z
  pub high : p.z ≤ℤ bounds.z_high
  pub sides : in_sides bounds.sides bounds.axis p ≡ true

-- the test gives the fact
pub holds_from : (bounds : Bounds) (p : Point) → in_bounds bounds p ≡ true → Holds bounds p
holds_from bounds p h =
    let all = and_parts _ _ h in
    let z = and_parts _ _ all.0 in
    record { low = le_from _ _ z.0; high = le_from _ _ z.1; sides = all.1 }

-- the fact gives the test
pub holds_to : (bounds : Bounds) (p : Point) → Holds bounds p → in_bounds bounds p ≡ true
holds_to bounds p h = and_from _ _ (and_from _ _ (le_to _ _ h.low) (le_to _ _ h.high)) h.sides

-- the test of the sides is the test of the wedge, by whether there is one wedge alone
sides_step : (n k : ℕ) (p : Point) (b : Bool) → nat_eq n 1 ≡ b → k < n
    → in_sides (cond b None (Some (record { first = heading n k; second = heading n (k + 1) }))) (nat_eq k 0) p
    ≡ cond b (nat_eq k 0) (cond (is_on_axis p) (nat_eq k 0) (int_le (pos 0) (past (heading n k) p.x p.y) && int_lt (past (heading n (k + 1)) p.x p.y) (pos 0)))
sides_step n k p true e h = let one = eqb-true n 1 e in sym (eq-eqb k 0 (omega (arith, one, h)))
sides_step n k p false e h = refl

-- the test of the sides is the test of the wedge
pub sides_wedge : (n k : ℕ) (p : Point) → k < n → in_sides (sides_of n k) (nat_eq k 0) p ≡ in_wedge n k p.x p.y
unfolding in_wedge
sides_wedge n k p h = sides_step n k p (nat_eq n 1) refl h

-- what lies within the bounds of a wedge, its wedge holds
pub wedge_from : (n k : ℕ) (low end : ℤ) (p : Point) → IsWedgeCount n → k < n → Holds (wedge_bounds n k low end) p → InWedge n k p.x p.y
wedge_from n k low end p count h held = (test_is_the_fact n k p.x p.y count).0 (sym (sides_wedge n k p h) ∙ held.sides)

-- what a wedge holds, its bounds does, at the right height
pub wedge_to : (n k : ℕ) (low end : ℤ) (p : Point) → IsWedgeCount n → k < n → low ≤ℤ p.z → p.z <ℤ end → InWedge n k p.x p.y → Holds (wedge_bounds n k low end) p
wedge_to n k low end p count h lo hi w = record {
  low = lo;
  high = omega (arith, ints, hi);
  sides = sides_wedge n k p h ∙ (test_is_the_fact n k p.x p.y count).1 w;
}
