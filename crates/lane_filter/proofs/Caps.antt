-- A cap with its centre in 32 bits and its limit in 63.
use Rattle.std.proofs.Common.{◌≡◌, ℕ, ◌*◌, ◌≤◌, arith, ℤ, pos, negsuc, refl, ◌≤ℤ◌, ◌+ℤ◌, ◌-ℤ◌}
use Rattle.std.specs.Prelude.{int_le, unsigned_abs}
use Rattle.std.proofs.Math.Nat.{mul-le-mul}
use Rattle.std.proofs.lemmas.Int.{ints}
use Rattle.sky_vector.specs.Points.{IsWithin, square}
use Rattle.sky_vector.specs.Pos.{point}
use Rattle.sky_vector.specs.declared.position.Pos.{Pos}
use Rattle.lane_filter.specs.Tests.{is_near}
use Rattle.sky_vector.specs.declared.limits.TheConstants.{CHORD_SQUARED_MOST}

square_is : (x : ℤ) → square x ≡ pos (unsigned_abs x * unsigned_abs x)
square_is (pos n) = refl
square_is (negsuc n) = refl

gap_low : (a b : ℤ) → IsWithin a → IsWithin b → unsigned_abs (a -ℤ b) ≤ 1073741824
gap_low a b within_a within_b = grind (arith, ints)

sum_low : (a b c : ℕ) → a ≤ 1152921504606846976 → b ≤ 1152921504606846976 → c ≤ 1152921504606846976 → (pos a +ℤ pos b +ℤ pos c) ≤ℤ pos CHORD_SQUARED_MOST
sum_low a b c x y z = omega (arith, ints, x, y, z)

-- no squared chord is above 2^62
chord_low : (x y z a b c : ℤ) → IsWithin x → IsWithin y → IsWithin z → IsWithin a → IsWithin b → IsWithin c
    → (square (x -ℤ a) +ℤ square (y -ℤ b) +ℤ square (z -ℤ c)) ≤ℤ pos CHORD_SQUARED_MOST
chord_low x y z a b c wx wy wz wa wb wc =
    let p = gap_low x a wx wa in
    let q = gap_low y b wy wb in
    let r = gap_low z c wz wc in
    rw (square_is (x -ℤ a), square_is (y -ℤ b), square_is (z -ℤ c)) (
    sum_low (unsigned_abs (x -ℤ a) * unsigned_abs (x -ℤ a)) (unsigned_abs (y -ℤ b) * unsigned_abs (y -ℤ b)) (unsigned_abs (z -ℤ c) * unsigned_abs (z -ℤ c))
    (mul-le-mul p p) (mul-le-mul q q) (mul-le-mul r r))

-- the centre and the limit as they are kept say the same of each position
pub one_cap : (centre : Pos) (a b c limit n x y z : ℤ) → a ≡ centre.x → b ≡ centre.y → c ≡ centre.z
    → ((chord : ℤ) → chord ≤ℤ pos CHORD_SQUARED_MOST → int_le chord limit ≡ int_le chord n) → IsWithin x → IsWithin y → IsWithin z
    → is_near (record { x = a; y = b; z = c }) limit x y z ≡ is_near (point centre) n x y z
unfolding is_near
one_cap centre a b c limit n x y z is_a is_b is_c same wx wy wz =
    rw (is_a, is_b, is_c) (same _ (chord_low x y z centre.x centre.y centre.z wx wy wz centre.x_within centre.y_within centre.z_within))
