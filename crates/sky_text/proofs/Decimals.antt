-- The text of a number of ten-thousandths, by its sign.
use Rattle.std.proofs.Common.{◌≡◌, ◌∷◌, ℤ, pos, negsuc, ◌<ℤ◌, ◌≤ℤ◌, nat_abs, refl, arith}
use Rattle.std.proofs.lemmas.Int.{ints}
use Rattle.text_rules.specs.Numbers.{four_decimals, ten_thousandths}

-- below zero the text is a minus and that of the size
pub negative : (z : ℤ) → z <ℤ pos 0 → four_decimals z ≡ 45 ∷ ten_thousandths (nat_abs z)
negative (pos n) below = absurd (omega (arith, ints))
negative (negsuc n) below = refl

-- from zero on it is that of the size
pub from_zero : (z : ℤ) → pos 0 ≤ℤ z → four_decimals z ≡ ten_thousandths (nat_abs z)
from_zero (pos n) above = refl
from_zero (negsuc n) above = absurd (omega (arith, ints))
