-- The values of a row are within the bounds of their columns.
use Rattle.std.proofs.Common.{◌≡◌, ℕ, zero, suc, ◌^◌, ◌-◌, ◌*◌, ◌<◌, ◌≤◌, ◌==◌, ◌⊎◌, inl, inr, ℤ, pos, negsuc, ◌+ℤ◌, ◌≤ℤ◌, nat_abs, true, false, List, [], ◌∷◌, Option, Some, None, refl, arith}
use Rattle.std.specs.Prelude.{int_le, slice_get, unwrap_or, nat_le}
use Rattle.std.specs.List.{list_all}
use Rattle.std.proofs.lemmas.Int.{ints}
use Rattle.std.proofs.lemmas.Nat.{mul-lt}
use Rattle.std.proofs.lemmas.Bool.{cases_lt, and_parts}
use Rattle.sky_vector.specs.Points.{Point, square, square_of, is_admissible}
use Rattle.table_rules.specs.Objects.{Obj, cell, column_bound, is_further}
use Rattle.value_rules.specs.Widths.{IsOfSize}
use Rattle.value_rules.specs.Laws.{CellIsWithin}

-- a square is a natural
square_up : (a : ℤ) → (m : ℕ) × (square a ≡ pos m)
square_up (pos n) = (n * n, refl)
square_up (negsuc n) = (suc n * suc n, refl)

-- a number whose square is small is small
small_root : (n : ℕ) → n * n ≤ 268435472 * 268435472 → n ≤ 268435472
small_root n h = small_root_by (cases_lt 268435472 n)
  where
    small_root_by : (268435472 < n) ⊎ (n ≤ 268435472) → n ≤ 268435472
    small_root_by (inl high) = absurd (omega (arith, h, mul-lt 268435472 268435472 n n high high))
    small_root_by (inr low) = low

small_by : (a : ℤ) → square a ≤ℤ pos (268435472 * 268435472) → nat_abs a ≤ 268435472
small_by (pos n) h = small_root n (omega (arith, ints, h))
small_by (negsuc n) h = small_root (suc n) (omega (arith, ints, h))

-- each of three naturals is at most what bounds their sum
three_parts : (x y z most : ℕ) → (pos x +ℤ pos y +ℤ pos z) ≤ℤ pos most → (pos x ≤ℤ pos most) × (pos y ≤ℤ pos most) × (pos z ≤ℤ pos most)
three_parts x y z most h = (omega (arith, ints), omega (arith, ints), omega (arith, ints))

-- a test that passes says so
below : (a b : ℤ) → int_le a b ≡ true → a ≤ℤ b
below a b h = grind (arith, ints)

parts : (p : Point) → square_of p ≤ℤ pos (268435472 * 268435472) → (nat_abs p.x ≤ 268435472) × (nat_abs p.y ≤ 268435472) × (nat_abs p.z ≤ 268435472)
parts p h =
    let x = square_up p.x in let y = square_up p.y in let z = square_up p.z in
    let all = three_parts x.0 y.0 z.0 (268435472 * 268435472) (rw (x.1, y.1, z.1) at h) in
    (small_by p.x (rw x.1 all.0), small_by p.y (rw y.1 all.1), small_by p.z (rw z.1 all.2))

-- the parts of an admissible point are within the radius of the sky
admissible_parts : (p : Point) → is_admissible p ≡ true → (nat_abs p.x ≤ 268435472) × (nat_abs p.y ≤ 268435472) × (nat_abs p.z ≤ 268435472)
admissible_parts p h = parts p (below (square_of p) (pos (268435472 * 268435472)) (and_parts _ _ h).1)

further_size : (v : Option ℤ) → is_further v ≡ true → IsOfSize (2 ^ 50) v
further_size None h = tt
further_size (Some z) h =
    let p = and_parts (int_le (negsuc (2 ^ 50 - 1)) z) (int_le z (pos (2 ^ 50))) h in
    let low = below (negsuc (2 ^ 50 - 1)) z p.0 in
    let high = below z (pos (2 ^ 50)) p.1 in omega (arith, ints, low, high)

further_at : (vs : List (Option ℤ)) → list_all is_further vs ≡ true → (i : ℕ) → IsOfSize (2 ^ 50) (unwrap_or (slice_get vs i) None)
further_at [] h i = tt
further_at (v ∷ vs) h zero = further_size v (and_parts _ _ h).0
further_at (v ∷ vs) h (suc i) = further_at vs (and_parts _ _ h).1 i

-- a column above another one is not that one
apart : (n k : ℕ) → k < n → (n == k) ≡ false
apart n k h = grind arith

above : (n : ℕ) → 3 < n → nat_le n 3 ≡ false
above n h = grind arith

-- a column from the fifth on
high_cell : (o : Obj) (n : ℕ) → 3 < n → IsOfSize (2 ^ 50) (unwrap_or (slice_get o.further (n - 4)) None) → IsOfSize (nat_abs (column_bound n)) (cell o n)
high_cell o n h k =
    rw (apart n 0 (omega (arith, h)), apart n 1 (omega (arith, h)), apart n 2 (omega (arith, h)), apart n 3 h, above n h) k

pub cell_is_within : CellIsWithin
cell_is_within o zero row = let low = row.id in let high = row.most in omega (arith, ints, low, high)
cell_is_within o (suc zero) row = (admissible_parts o.at row.at).0
cell_is_within o (suc (suc zero)) row = (admissible_parts o.at row.at).1
cell_is_within o (suc (suc (suc zero))) row = (admissible_parts o.at row.at).2
cell_is_within o (suc (suc (suc (suc n)))) row =
    high_cell o (suc (suc (suc (suc n)))) (omega arith) (further_at o.further row.further (suc (suc (suc (suc n))) - 4))
