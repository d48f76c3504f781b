-- The list of a query set determines its four integers, which the model of a copied type has to show.
use Rattle.std.proofs.Common.{◌≡◌, ℕ, ◌+◌, ◌-◌, ◌*◌, ◌/◌, ◌%◌, ◌^◌, ◌==◌, min, List, [], ◌∷◌, slice_index}
use Rattle.std.proofs.Common.{Bool, true, false, cond, zero, suc, ⊎_elim, refl, sym, ◌∙◌, ap, arith, filter, sum_by, eq-eqb, ne_eqb}
use Rattle.std.specs.Int.{bit_at}
use Rattle.std.proofs.Math.Nat.{mod-eq_of_lt, mod-one}
use Rattle.std.proofs.lemmas.Bool.{cases_Bool, cases_eq, cond-true, cond-false}
use Rattle.std.proofs.lemmas.List.Elements.{filter-append}
use Rattle.std.proofs.lemmas.List.Sums.{sum_by-append}
use Rattle.std.proofs.lemmas.Nat.{mod-pow-add}
use Rattle.scan_rules.specs.Numbers.{below}
use Rattle.scan_rules.specs.QuerySets.{is_set, set_queries, AreFourWords, bit_in, words_of}

-- how many bits of the integer at this position belong to queries below n
abbrev bits_below : ℕ → ℕ → ℕ
bits_below place n = min 64 (n - 64 * place)

-- what query n adds to the integer at this position, if its bit is 1
added : (words : List ℕ) (place n : ℕ) → sum_by (bit_in place) (cond (is_set words n) (n ∷ []) []) ≡ cond (is_set words n) (bit_in place n) 0
added words place n = ⊎_elim
    (λ t. ap (λ b. sum_by (bit_in place) (cond b (n ∷ []) [])) t ∙ (omega arith ∙ sym (cond-true _ (bit_in place n) 0 t)))
    (λ f. ap (λ b. sum_by (bit_in place) (cond b (n ∷ []) [])) f ∙ sym (cond-false _ (bit_in place n) 0 f))
    (cases_Bool (is_set words n))

-- a bit that is 1 counts as its power of two
weighs : (word bit : ℕ) → cond (bit_at word bit == 1) (2 ^ bit) 0 ≡ bit_at word bit * 2 ^ bit
weighs word bit = ⊎_elim
    (λ e. cond-true _ _ _ (eq-eqb _ _ e) ∙ sym (ap (λ b. b * 2 ^ bit) e ∙ omega arith))
    (λ ne. let z : bit_at word bit ≡ 0 = omega (arith, ne) in cond-false _ _ _ (ne_eqb _ _ ne) ∙ sym (ap (λ b. b * 2 ^ bit) z ∙ omega arith))
    (cases_eq (bit_at word bit) 1)

-- query n adds the next bit to its own integer, and nothing to another
next_bit : (words : List ℕ) (place n : ℕ) → slice_index words place % 2 ^ bits_below place n + cond (is_set words n) (bit_in place n) 0 ≡ slice_index words place % 2 ^ bits_below place (suc n)
next_bit words place n = ⊎_elim
    (λ e. let word : ℕ = slice_index words place in
    let bit : ℕ = n % 64 in
    let before : bits_below place n ≡ bit = omega (arith, e) in
    let after : bits_below place (suc n) ≡ 1 + bit = omega (arith, e) in
    let here : cond (is_set words n) (bit_in place n) 0 ≡ bit_at word bit * 2 ^ bit =
    ap (λ b. cond (is_set words n) b 0) (cond-true (n / 64 == place) (2 ^ bit) 0 (eq-eqb _ _ e)) ∙ (ap (λ w. cond (bit_at (slice_index words w) bit == 1) (2 ^ bit) 0) e ∙ weighs word bit) in
    let parts : word % 2 ^ (1 + bit) ≡ bit_at word bit * 2 ^ bit + word % 2 ^ bit = mod-pow-add word 1 bit in
    let low : word % 2 ^ bits_below place n ≡ word % 2 ^ bit = ap (λ k. word % 2 ^ k) before in
    let all : word % 2 ^ bits_below place (suc n) ≡ word % 2 ^ (1 + bit) = ap (λ k. word % 2 ^ k) after in
    omega (arith, here, parts, low, all))
    (λ ne. let same : bits_below place n ≡ bits_below place (suc n) = omega (arith, ne) in
    let word : ℕ = slice_index words place in
    let nothing : cond {A = ℕ} (is_set words n) (bit_in place n) 0 ≡ 0 = ap (λ b. cond {A = ℕ} (is_set words n) b 0) (cond-false (n / 64 == place) (2 ^ (n % 64)) 0 (ne_eqb _ _ ne)) ∙ none (is_set words n) in
    let all : word % 2 ^ bits_below place n ≡ word % 2 ^ bits_below place (suc n) = ap (λ k. word % 2 ^ k) same in
    omega (arith, nothing, all))
    (cases_eq (n / 64) place)
  where
    none : (b : Bool) → cond {A = ℕ} b 0 0 ≡ 0
    none true = refl
    none false = refl

-- the bits of the queries below n make up the low bits of the integer
low_bits : (words : List ℕ) (place n : ℕ) → sum_by (bit_in place) (filter (is_set words) (below n)) ≡ slice_index words place % 2 ^ bits_below place n
unfolding below
low_bits words place zero = let e : bits_below place 0 ≡ 0 = omega arith in sym (ap (λ k. slice_index words place % 2 ^ k) e ∙ mod-one (slice_index words place))
low_bits words place (suc n) =
    ap (sum_by (bit_in place)) (filter-append (is_set words) (below n) (n ∷ []))
    ∙ (sum_by-append (bit_in place) (filter (is_set words) (below n)) (cond (is_set words n) (n ∷ []) [])
    ∙ (ap (λ k. k + sum_by (bit_in place) (cond (is_set words n) (n ∷ []) [])) (low_bits words place n)
    ∙ (ap (λ k. slice_index words place % 2 ^ bits_below place n + k) (added words place n) ∙ next_bit words place n)))

-- the four integers are those of their list
pub words_return : (words : List ℕ) → AreFourWords words → words_of (set_queries words) ≡ words
words_return [] h = let l = h.four in absurd (omega (arith, l))
words_return (a ∷ []) h = let l = h.four in absurd (omega (arith, l))
words_return (a ∷ b ∷ []) h = let l = h.four in absurd (omega (arith, l))
words_return (a ∷ b ∷ c ∷ []) h = let l = h.four in absurd (omega (arith, l))
words_return (a ∷ b ∷ c ∷ d ∷ e ∷ rest) h = let l = h.four in absurd (omega (arith, l))
words_return (a ∷ b ∷ c ∷ d ∷ []) h =
    let words : List ℕ = a ∷ b ∷ c ∷ d ∷ [] in
    let w0 : sum_by (bit_in 0) (set_queries words) ≡ a = low_bits words 0 256 ∙ mod-eq_of_lt (h.fit 0 0 (omega arith)) in
    let w1 : sum_by (bit_in 1) (set_queries words) ≡ b = low_bits words 1 256 ∙ mod-eq_of_lt (h.fit 1 0 (omega arith)) in
    let w2 : sum_by (bit_in 2) (set_queries words) ≡ c = low_bits words 2 256 ∙ mod-eq_of_lt (h.fit 2 0 (omega arith)) in
    let w3 : sum_by (bit_in 3) (set_queries words) ≡ d = low_bits words 3 256 ∙ mod-eq_of_lt (h.fit 3 0 (omega arith)) in
    cc
