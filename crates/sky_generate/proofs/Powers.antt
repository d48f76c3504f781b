-- Powers of the multiplier, modulo 2^31 - 1.
use Rattle.std.proofs.Common.{◌≡◌, ℕ, suc, ◌+◌, ◌*◌, ◌/◌, ◌%◌, ◌^◌, arith, sym, ap, ◌∙◌}
use Rattle.std.proofs.Math.Nat.{add-mul-mod_self_right, pow-suc}
use Rattle.std.proofs.lemmas.Nat.{div-add-mod', pow-add}
use Rattle.demo_rules.specs.Draws.{draw}
use Rattle.demo_rules.specs.declared.limits.TheConstants.{MODULUS, MULTIPLIER}

parts : (q p r b : ℕ) → r * b + q * b * p ≡ (q * p + r) * b
parts q p r b = grind arith

-- a factor may be reduced first
pub reduced : (a b p : ℕ) → a % p * b % p ≡ a * b % p
reduced a b p =
    sym (add-mul-mod_self_right (a % p * b) (a / p * b) p)
    ∙ ap (λ x. x % p) (parts (a / p) p (a % p) b ∙ ap (λ x. x * b) (div-add-mod' a p))

pub grouped : (a b c : ℕ) → a * b * c ≡ a * (b * c)
grouped a b c = grind arith

swapped : (a b : ℕ) → a * b ≡ b * a
swapped a b = grind arith

-- both factors may be reduced first
both_reduced : (a b p : ℕ) → a % p * (b % p) % p ≡ a * b % p
both_reduced a b p =
    reduced a (b % p) p ∙ (ap (λ x. x % p) (swapped a (b % p)) ∙ (reduced b a p ∙ ap (λ x. x % p) (swapped b a)))

-- the power of a sum of two equal exponents
square_of : (m p h : ℕ) → m ^ h % p * (m ^ h % p) % p ≡ m ^ (h + h) % p
square_of m p h = both_reduced (m ^ h) (m ^ h) p ∙ ap (λ x. x % p) (sym (pow-add m h h))

pub even_power : (e half : ℕ) → e % 2 ≡ 0 → half ≡ MULTIPLIER ^ (e / 2) % MODULUS → half * half % MODULUS ≡ MULTIPLIER ^ e % MODULUS
even_power e half even is =
    let whole : e / 2 + e / 2 ≡ e = omega (arith, even) in
    ap (λ x. x * x % MODULUS) is ∙ (square_of MULTIPLIER MODULUS (e / 2) ∙ ap (λ k. MULTIPLIER ^ k % MODULUS) whole)

pub odd_power : (e half : ℕ) → (e % 2 ≡ 0 → ⊥) → half ≡ MULTIPLIER ^ (e / 2) % MODULUS → half * half % MODULUS * MULTIPLIER % MODULUS ≡ MULTIPLIER ^ e % MODULUS
odd_power e half odd is =
    let whole : suc (e / 2 + e / 2) ≡ e = omega (arith, odd) in
    let square : half * half % MODULUS ≡ MULTIPLIER ^ (e / 2 + e / 2) % MODULUS = ap (λ x. x * x % MODULUS) is ∙ square_of MULTIPLIER MODULUS (e / 2) in
    ap (λ x. x * MULTIPLIER % MODULUS) square
    ∙ (reduced (MULTIPLIER ^ (e / 2 + e / 2)) MULTIPLIER MODULUS
    ∙ (ap (λ x. x % MODULUS) (sym (pow-suc MULTIPLIER (e / 2 + e / 2))) ∙ ap (λ k. MULTIPLIER ^ k % MODULUS) whole))

-- a draw by the power of its number
pub drawn_at : (seed number power : ℕ) → power ≡ MULTIPLIER ^ number % MODULUS → seed * power % MODULUS ≡ draw seed number
drawn_at seed number power is =
    ap (λ x. seed * x % MODULUS) is
    ∙ (ap (λ x. x % MODULUS) (swapped seed (MULTIPLIER ^ number % MODULUS))
    ∙ (reduced (MULTIPLIER ^ number) seed MODULUS ∙ ap (λ x. x % MODULUS) (swapped (MULTIPLIER ^ number) seed)))
