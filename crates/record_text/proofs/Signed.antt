-- Numbers by their sign and what stands behind it.
use Rattle.std.proofs.Common.{◌≡◌, refl, sym, ap, ℕ, ◌≤◌, ◌<◌, ◌==◌, arith, Bool, true, false, List, [], ◌∷◌, drop, get_or, length, Some}
use Rattle.std.proofs.lemmas.Option.{none-some}
use Rattle.text_rules.specs.Numbers.{int_of, natural}
use Rattle.record_text.specs.Signs.{has_minus, sign_len, signed}

-- the sign is no longer than the text
pub sign_within : (text : List ℕ) (minus : Bool) → minus ≡ has_minus text → sign_len minus ≤ length text
sign_within [] minus is = rw is (omega arith)
sign_within (b ∷ bs) true is = omega arith
sign_within (b ∷ bs) false is = omega arith

-- the first byte tells
pub minus_first : (text : List ℕ) (first : ℕ) → 0 < length text → first ≡ get_or text 0 first → has_minus text ≡ (first == 45)
minus_first [] first some is = absurd (omega (arith, some))
minus_first (b ∷ bs) first some is = ap (λ n. n == 45) (sym is)

by_sign : (b : ℕ) (bs : List ℕ) (n : ℕ) (minus : Bool) → (b == 45) ≡ minus → natural 19 (drop (sign_len minus) (b ∷ bs)) ≡ Some n
    → int_of (b ∷ bs) ≡ Some (signed minus n)
by_sign b bs n true is digits = rw (is, digits) refl
by_sign b bs n false is digits = rw (is, digits) refl

-- the number of the digits, with the sign, is the text's
pub int_signed : (text : List ℕ) (minus : Bool) (n : ℕ) → minus ≡ has_minus text → natural 19 (drop (sign_len minus) text) ≡ Some n
    → int_of text ≡ Some (signed minus n)
int_signed [] minus n is digits = absurd (none-some n (rw is at digits))
int_signed (b ∷ bs) minus n is digits = by_sign b bs n minus (sym is) digits
