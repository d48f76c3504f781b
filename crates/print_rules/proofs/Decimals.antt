-- The digits of a number.
use Rattle.std.proofs.Common.{◌≡◌, ℕ, ◌<◌, ◌^◌, true, List, length, decimal}
use Rattle.std.specs.List.{list_all}
use Rattle.std.proofs.Common.{rules}
use Rattle.std.proofs.lemmas.Fmt.{decimal_nonempty, digits_decimal, digits_value-decimal}
use Rattle.std.proofs.lemmas.Str.Parse.{IsNumeralModel, numerals_by_fold}
use Rattle.text_rules.specs.Numbers.{is_digit, value_after}

-- digits and their number, in the words of numerals
own : IsNumeralModel (λ ds. list_all is_digit ds ≡ true) (value_after 0)
own = numerals_by_fold _ (search rules) value_after (search rules)

-- The bytes are one digit or more, and write the number.
pub record Digits (n : ℕ) (ds : List ℕ) : Type 0 where
  pub some : 0 < length ds
  pub all : list_all is_digit ds ≡ true
  pub value : value_after 0 ds ≡ n

-- a number's decimal text is such digits
pub decimal_digits : (n : ℕ) → n < 2 ^ 64 → Digits n (decimal n)
decimal_digits n small = record {
  some = decimal_nonempty n small;
  all = digits_decimal own n small;
  value = digits_value-decimal own n small;
}
