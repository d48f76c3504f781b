-- Numbers that digits write.
use Rattle.std.proofs.Common.{◌≡◌, refl, ap, ◌∙◌, sym, ℕ, ◌+◌, ◌-◌, ◌*◌, ◌^◌, ◌<◌, ◌≤◌, List, [], ◌∷◌, Bool, true, false, cond, length, take, drop, get_or, None, arith}
use Rattle.std.specs.List.{list_all, prefix_len, take_while}
use Rattle.std.proofs.lemmas.Grind.{common_steps}
use Rattle.std.proofs.lemmas.List.Sums.{take_while-cons}
use Rattle.text_rules.specs.Numbers.{is_digit, value_after}
use Rattle.sql_token.specs.Tokens.{small_int}

-- one digit more, or an end
digits_step : (b : ℕ) (bs : List ℕ) (test : Bool) → is_digit b ≡ test → list_all is_digit bs ≡ true
    → list_all is_digit (cond test (b ∷ bs) []) ≡ true
digits_step b bs true passes all = rw (passes, all) refl
digits_step b bs false passes all = refl

-- the digits at the front are digits
pub all_digits : (bs : List ℕ) → list_all is_digit (take (prefix_len is_digit bs) bs) ≡ true
all_digits [] = refl
all_digits (b ∷ bs) = rw (take_while-cons is_digit b bs) (digits_step b (take_while is_digit bs) (is_digit b) refl (all_digits bs))

-- more digits write no smaller number
pub value_grows : (n : ℕ) (bs : List ℕ) → n ≤ value_after n bs
value_grows n [] = omega arith
value_grows n (b ∷ bs) = omega (arith, value_grows (n * 10 + (b - 48)) bs)

-- a number that 64 bits don't hold is no int
not_small : (v : ℕ) → 2 ^ 64 ≤ v → small_int v ≡ None
not_small v large = grind (arith, common_steps)

-- where 64 bits don't hold the number up to a digit, what all the digits write is no int
pub too_large : (n i v : ℕ) (bs : List ℕ) → value_after n (drop i bs) ≡ v → i < length bs
    → 2 ^ 64 ≤ n * 10 + (get_or bs i 0 - 48) → small_int v ≡ None
too_large n i v bs value within large =
    let split : drop i bs ≡ get_or bs i 0 ∷ drop (i + 1) bs = grind (arith, common_steps) in
    let grows = value_grows (n * 10 + (get_or bs i 0 - 48)) (drop (i + 1) bs) in
    let is : value_after (n * 10 + (get_or bs i 0 - 48)) (drop (i + 1) bs) ≡ v = ap (value_after n) (sym split) ∙ value in
    not_small v (omega (arith, grows, is, large))
