use Rattle.std.proofs.Common.{arith, ℤ, ◌≤◌, ◌*ℤ◌, unsigned_abs, w64, FitsSigned}
use Rattle.std.proofs.lemmas.Int.{ints, to_z-of_z, fits_signed_mul, unsigned_abs-mul}
use Rattle.std.proofs.Math.Nat.{mul-le-mul}
use Rattle.sky_vector.specs.Points.{IsWithin}
use Rattle.sky_vector.proofs.grid.product.Goals as goal

-- a part has a size of at most 2^29
size : (part : ℤ) → IsWithin part → unsigned_abs part ≤ 536870912
size part h = omega (arith, ints)

fits : (a b : ℤ) → IsWithin a → IsWithin b → FitsSigned w64 (a *ℤ b)
fits a b h k = fits_signed_mul w64 a b 536870912 536870912 (size a h) (size b k) (omega arith)

pub returns-clause-value : goal.returns-clause-value
returns-clause-value c =
    rw (to_z-of_z w64 c.args.a c.ranges.a, to_z-of_z w64 c.args.b c.ranges.b)
    (to_z-of_z w64 _ (fits _ _ c.requires.a_within c.requires.b_within))

pub returns-clause-size : goal.returns-clause-size
returns-clause-size c =
    rw (to_z-of_z w64 c.args.a c.ranges.a, to_z-of_z w64 c.args.b c.ranges.b, to_z-of_z w64 _ (fits _ _ c.requires.a_within c.requires.b_within), unsigned_abs-mul c.args.a c.args.b)
    (mul-le-mul (size _ c.requires.a_within) (size _ c.requires.b_within))
