-- The rounded average is the nearest ten-thousandth, halves away from zero.
use Rattle.std.proofs.Common.{◌≡◌, ◌↔◌, ℕ, ◌+◌, ◌*◌, ◌/◌, ◌<◌, ◌≤◌, zero, suc, ℤ, pos, negsuc, Bool, true, false, refl, sym, ap, ◌∙◌, subst, arith}
use Rattle.std.specs.Prelude.{neg_ℤ, nat_abs, int_lt, if◌then◌else◌}
use Rattle.std.proofs.Math.Nat.{le-div_iff_mul-le, div-lt_iff_lt-mul, div-mul-le_self, lt-div-mul-add, suc-mul}
use Rattle.answer_rules.specs.Aggregates.{rounded_average}
use Rattle.answer_rules.specs.Rounding.{signed_as, IsNearest, AveragesAreNearest}

-- a size keeps its value when it gets a sign
size_with : (negative : Bool) (size : ℕ) → nat_abs (if negative then neg_ℤ (pos size) else pos size) ≡ size
size_with true zero = refl
size_with true (suc size) = refl
size_with false size = refl

size_of_signed : (total : ℤ) (size : ℕ) → nat_abs (signed_as total size) ≡ size
size_of_signed total size = size_with (int_lt total (pos 0)) size

-- a quotient of a positive number is the number whose multiple is the last at or below the dividend
quotient_is : (x y q : ℕ) → 0 < y → q * y ≤ x → x < q * y + y → q ≡ x / y
quotient_is x y q low under over =
    let at_least : q ≤ x / y = (le-div_iff_mul-le low).1 under in
    let less : x / y < suc q = (div-lt_iff_lt-mul low).1 (subst (λ n. x < n) (sym (suc-mul q y)) over) in
    omega (arith, at_least, less)

module _ (total : ℤ) (count : ℕ) (low : 0 < count) where
  -- twice the count is the divisor, and what is divided is twice the total in ten-thousandths, and half of the divisor
  is_nearest : (average : ℤ) → average ≡ rounded_average total count → IsNearest total count average
  is_nearest average e =
      let n = 2 * (nat_abs total * 10000) + count in
      let size : nat_abs average ≡ n / (2 * count) = ap nat_abs e ∙ size_of_signed total (n / (2 * count)) in
      let twice : 0 < 2 * count = omega (arith, low) in
      let over : n < n / (2 * count) * (2 * count) + 2 * count = lt-div-mul-add twice in
      record {
        above = subst (λ q. q * (2 * count) ≤ n) (sym size) (div-mul-le_self n (2 * count));
        below = subst (λ q. 2 * (nat_abs total * 10000) < q * (2 * count) + count) (sym size) (omega (arith, over));
        sign = e ∙ ap (signed_as total) (sym size);
      }

  is_rounded : (average : ℤ) → IsNearest total count average → average ≡ rounded_average total count
  is_rounded average h =
      let n = 2 * (nat_abs total * 10000) + count in
      let twice : 0 < 2 * count = omega (arith, low) in
      let under : nat_abs average * (2 * count) ≤ n = h.above in
      let near : 2 * (nat_abs total * 10000) < nat_abs average * (2 * count) + count = h.below in
      let over : n < nat_abs average * (2 * count) + 2 * count = omega (arith, near) in
      h.sign ∙ ap (signed_as total) (quotient_is n (2 * count) (nat_abs average) twice under over)

pub averages_are_nearest : AveragesAreNearest
averages_are_nearest total count average low = (is_nearest total count low average, is_rounded total count low average)
