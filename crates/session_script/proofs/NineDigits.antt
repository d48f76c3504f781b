-- Numbers of at most nine digits.
use Rattle.std.proofs.Common.{◌≡◌, refl, ℕ, ◌+◌, ◌-◌, ◌*◌, ◌^◌, ◌<◌, ◌≤◌, arith, Bool, true, false, cond, List, [], ◌∷◌, length, None, Some}
use Rattle.std.specs.List.{list_all}
use Rattle.std.proofs.Math.Nat.{pow-le-pow_right}
use Rattle.std.proofs.lemmas.Grind.{common_steps}
use Rattle.text_rules.specs.Numbers.{is_digit, is_natural, natural, value_after}
use Rattle.sky_text.proofs.Digits.{more_digits}

-- a digit more
one_digit : (b : ℕ) (bs : List ℕ) → list_all is_digit (b ∷ bs) ≡ true → (b - 48 ≤ 9) × (list_all is_digit bs ≡ true)
one_digit b bs all = grind (arith, common_steps)

value_small : (n k : ℕ) (bs : List ℕ) → n < 10 ^ k → k + length bs ≤ 9 → list_all is_digit bs ≡ true → value_after n bs < 10 ^ 9
value_small n k [] small few all =
    let base : 0 < 10 = omega arith in
    let le : k ≤ 9 = omega arith in
    let powers : 10 ^ k ≤ 10 ^ 9 = pow-le-pow_right base le in
    omega (arith, powers)
value_small n k (b ∷ bs) small few all =
    let digit = one_digit b bs all in
    value_small (n * 10 + (b - 48)) (k + 1) bs (more_digits n (b - 48) k small digit.0) (omega arith) digit.1

-- what a text of at most nine digits is
parts : (bs : List ℕ) → is_natural 9 bs ≡ true → (length bs ≤ 9) × (list_all is_digit bs ≡ true)
parts bs h = grind (arith, common_steps)

natural_by : (bs : List ℕ) (n : ℕ) (b : Bool) → is_natural 9 bs ≡ b → cond b (Some (value_after 0 bs)) None ≡ Some n → n < 10 ^ 9
natural_by bs n false is e = absurd (cc e)
natural_by bs n true is e =
    let known = parts bs is in
    let same : value_after 0 bs ≡ n = cc e in
    omega (arith, same, value_small 0 0 bs (omega arith) (omega (arith, known.0)) known.1)

-- nine digits write a number below 10^9
pub natural_small : (bs : List ℕ) (n : ℕ) → natural 9 bs ≡ Some n → n < 10 ^ 9
natural_small bs n e = natural_by bs n (is_natural 9 bs) refl e
