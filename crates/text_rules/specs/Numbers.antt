-- Numbers as a text writes them: decimal digits, after a minus if they are negative.
use Rattle.std.specs.Prelude.{ℕ, suc, ◌+◌, ◌-◌, ◌*◌, ◌/◌, ◌%◌, Bool, ◌&&◌, List, [], ◌∷◌, ◌++◌, length}
use Rattle.std.specs.Prelude.{Option, None, Some, option_map, if◌then◌else◌, nat_le, nat_lt, ◌==◌}
use Rattle.std.specs.Prelude.{ℤ, pos, negsuc, neg_ℤ}
use Rattle.std.specs.List.{list_all}
use Rattle.std.specs.Fmt.{decimal}
use Rattle.text_rules.specs.declared.limits.TheConstants.{INT_DIGITS_MOST}

-- a byte is a digit, 0 to 9
abbrev pub is_digit : ℕ → Bool
is_digit b = nat_le 48 b && nat_le b 57

-- the number that is written by the digits of n followed by these digits
abbrev pub value_after : ℕ → List ℕ → ℕ
value_after n [] = n
value_after n (b ∷ bs) = value_after (n * 10 + (b - 48)) bs

-- the text is one or more digits, and at most `most`
abbrev pub is_natural : ℕ → List ℕ → Bool
is_natural most bs = nat_lt 0 (length bs) && nat_le (length bs) most && list_all is_digit bs

-- the number that one to `most` digits write; leading zeros are accepted
abbrev pub natural : ℕ → List ℕ → Option ℕ
natural most bs = if is_natural most bs then Some (value_after 0 bs) else None

-- the number of an optional minus and one to `most` digits; -0 is 0
abbrev pub whole_number : ℕ → List ℕ → Option ℤ
whole_number most [] = None
whole_number most (b ∷ bs) =
    if b == 45 then option_map (λ n. neg_ℤ (pos n)) (natural most bs)
    else option_map pos (natural most (b ∷ bs))

-- the number of a sky plan or of a catalogue's field: an optional minus and 1 to 19 digits
abbrev pub int_of : List ℕ → Option ℤ
int_of bs = whole_number INT_DIGITS_MOST bs

-- a number below 10,000, written in exactly four digits
abbrev pub four_digits : ℕ → List ℕ
four_digits n = (48 + n / 1000) ∷ (48 + n / 100 % 10) ∷ (48 + n / 10 % 10) ∷ (48 + n % 10) ∷ []

-- the given number of ten-thousandths: the whole part, a point, and four digits
abbrev pub ten_thousandths : ℕ → List ℕ
ten_thousandths n = decimal (n / 10000) ++ (46 ∷ four_digits (n % 10000))

-- a number of ten-thousandths with four decimals, after a minus if it is negative
abbrev pub four_decimals : ℤ → List ℕ
four_decimals (pos n) = ten_thousandths n
four_decimals (negsuc n) = 45 ∷ ten_thousandths (suc n)
