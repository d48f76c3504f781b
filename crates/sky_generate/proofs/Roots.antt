-- Squares and their roots, as natural numbers.
use Rattle.std.proofs.Common.{◌≡◌, ℕ, ◌+◌, ◌-◌, ◌*◌, ◌^◌, ◌≤◌, ◌<◌, ◌⊎◌, inl, inr, ℤ, pos, ◌+ℤ◌, ◌-ℤ◌, nat_abs, arith}
use Rattle.std.proofs.lemmas.Bool.{cases_lt}
use Rattle.std.proofs.lemmas.Int.{ints}
use Rattle.std.proofs.lemmas.Nat.{mul-lt}
use Rattle.sky_vector.specs.Points.{square}
use Rattle.sky_vector.specs.Roots.{IsRoot}

without : (z : ℤ) (s : ℕ) → pos s ≡ z → s ≤ 2 ^ 56 → nat_abs (pos (2 ^ 56) -ℤ z) ≡ 2 ^ 56 - s
without z s e h = grind (arith, ints, e, h)

-- the square of the radius without that of a height
pub below_the_sphere : (z : ℤ) (s r : ℕ) → pos s ≡ square z → s ≤ 2 ^ 56 → IsRoot (2 ^ 56 - s) r
    → IsRoot (nat_abs (pos (2 ^ 56) -ℤ square z)) r
below_the_sphere z s r e h root = rw (without (square z) s e h) root

together : (u v : ℤ) (a b : ℕ) → pos a ≡ u → pos b ≡ v → nat_abs (u +ℤ v) ≡ a + b
together u v a b e f = grind (arith, ints, e, f)

-- the sum of two squares
pub both_squares : (u v : ℤ) (a b r : ℕ) → pos a ≡ square u → pos b ≡ square v → IsRoot (a + b) r
    → IsRoot (nat_abs (square u +ℤ square v)) r
both_squares u v a b r e f root = rw (together (square u) (square v) a b e f) root

short : (n r : ℕ) → r * r ≤ n → n ≤ 2 ^ 56 → ((2 ^ 28 < r) ⊎ (r ≤ 2 ^ 28)) → r ≤ 2 ^ 28
short n r low most (inl long) =
    let product = mul-lt (2 ^ 28) (2 ^ 28) r r long long in absurd (omega (arith, low, most, product))
short n r low most (inr h) = h

-- the root of a number of at most 2^56 is at most 2^28
pub root_is_short : (n r : ℕ) → IsRoot n r → n ≤ 2 ^ 56 → r ≤ 2 ^ 28
root_is_short n r root most = short n r root.0 most (cases_lt (2 ^ 28) r)
