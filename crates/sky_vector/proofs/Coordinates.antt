-- The parts of an admissible point are coordinates: its square is at most that of the largest length.
use Rattle.std.proofs.Common.{subst, ℕ, ◌+◌, ◌*◌, ◌≤◌, arith, ◌⊎◌, inl, inr, ℤ, pos, negsuc, refl, ◌≡◌, ◌≤ℤ◌, ◌+ℤ◌}
use Rattle.std.specs.Prelude.{IsTrue, unsigned_abs}
use Rattle.std.proofs.Math.Nat.{mul-le-mul}
use Rattle.std.proofs.lemmas.Int.{ints}
use Rattle.sky_vector.specs.Points.{IsAdmissible, IsCoordinate, IsWithin, Point, is_admissible, square, square_of}
use Rattle.sky_vector.specs.declared.limits.TheConstants.{COORDINATE_MOST}

square_is : (x : ℤ) → square x ≡ pos (unsigned_abs x * unsigned_abs x)
square_is (pos n) = refl
square_is (negsuc n) = refl

compare : (n m : ℕ) → (n ≤ m) ⊎ (m + 1 ≤ n)
compare n m = grind arith

root_by : (n : ℕ) → n * n ≤ COORDINATE_MOST * COORDINATE_MOST → (n ≤ COORDINATE_MOST) ⊎ (COORDINATE_MOST + 1 ≤ n) → n ≤ COORDINATE_MOST
root_by n le (inl low) = low
root_by n le (inr high) =
    let far : (COORDINATE_MOST + 1) * (COORDINATE_MOST + 1) ≤ n * n = mul-le-mul high high in
    absurd (omega (arith, le, far))

coordinate_by : (x : ℤ) → unsigned_abs x ≤ COORDINATE_MOST → IsCoordinate x
coordinate_by x low = grind (arith, ints)

sum_low : (a b c : ℕ) → (pos a +ℤ pos b +ℤ pos c) ≤ℤ pos (COORDINATE_MOST * COORDINATE_MOST)
    → (a ≤ COORDINATE_MOST * COORDINATE_MOST) × (b ≤ COORDINATE_MOST * COORDINATE_MOST) × (c ≤ COORDINATE_MOST * COORDINATE_MOST)
sum_low a b c le = (omega (arith, ints, le), omega (arith, ints, le), omega (arith, ints, le))

upper : (p : Point) → IsAdmissible p → square_of p ≤ℤ pos (COORDINATE_MOST * COORDINATE_MOST)
upper p h = grind (arith, ints)

-- each part of an admissible point is a coordinate
pub coordinates : (p : Point) → IsAdmissible p → IsCoordinate p.x × IsCoordinate p.y × IsCoordinate p.z
coordinates p h =
    let x = unsigned_abs p.x in
    let y = unsigned_abs p.y in
    let z = unsigned_abs p.z in
    let le : (pos (x * x) +ℤ pos (y * y) +ℤ pos (z * z)) ≤ℤ pos (COORDINATE_MOST * COORDINATE_MOST) =
    subst (λ s. s ≤ℤ pos (COORDINATE_MOST * COORDINATE_MOST)) (cc (square_is p.x, square_is p.y, square_is p.z)) (upper p h) in
    let low = sum_low (x * x) (y * y) (z * z) le in (
      coordinate_by p.x (root_by x low.0 (compare x COORDINATE_MOST)),
      coordinate_by p.y (root_by y low.1 (compare y COORDINATE_MOST)),
      coordinate_by p.z (root_by z low.2 (compare z COORDINATE_MOST)),
    )

within : (a : ℤ) → IsCoordinate a → IsWithin a
within a h = omega (arith, ints, h.0, h.1)

-- so it is a part of a point
pub admissible_within : (p : Point) → IsTrue (is_admissible p) → IsWithin p.x × IsWithin p.y × IsWithin p.z
admissible_within p h =
    let all = coordinates p h in (within p.x all.0, within p.y all.1, within p.z all.2)
