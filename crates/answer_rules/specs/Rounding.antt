-- What the rounding of an average is: the nearest ten-thousandth, and of two that are equally near the one farther from zero.
use Rattle.std.specs.Prelude.{◌≡◌, ◌↔◌, ℕ, ◌+◌, ◌*◌, ◌<◌, ◌≤◌, ℤ, pos, neg_ℤ, nat_abs, int_lt, if◌then◌else◌}
use Rattle.answer_rules.specs.Aggregates.{rounded_average}

-- this size, with the sign of the total
abbrev pub signed_as : ℤ → ℕ → ℤ
signed_as total size = if int_lt total (pos 0) then neg_ℤ (pos size) else pos size

-- In ten-thousandths, the average's size is at most one half above the size of the quotient, and less than one half below it.
-- So it is the nearest, and of two that are equally near the greater. Both sides are multiplied by twice the count. The
-- average has the sign of the total.
pub record IsNearest (total : ℤ) (count : ℕ) (average : ℤ) : Type 0 where
  pub above : nat_abs average * (2 * count) ≤ 2 * (nat_abs total * 10000) + count
  pub below : 2 * (nat_abs total * 10000) < nat_abs average * (2 * count) + count
  pub sign : average ≡ signed_as total (nat_abs average)

-- the rounded average is the nearest ten-thousandth, and no other number is
abbrev pub AveragesAreNearest : Type 0
AveragesAreNearest =
    (total : ℤ) (count : ℕ) (average : ℤ) → 0 < count
    → (average ≡ rounded_average total count) ↔ IsNearest total count average
