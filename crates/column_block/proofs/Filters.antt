-- Which bits of a filter are 1, and which ids it excludes.
use Rattle.std.proofs.Common.{◌≡◌, ◌≢◌, ◌∙◌, sym, ap, subst, ℕ, ◌*◌, ◌%◌, ◌^◌, ◌+◌, ◌-◌, ◌<◌, ◌≤◌, ◌==◌, ◌⊎◌, inl, inr, arith, ℤ, pos, true, false, List, length, get_or, map, set, eq-eqb, w64}
use Rattle.std.specs.Prelude.{All}
use Rattle.std.specs.Int.{bit_at, cast_unsigned}
use Rattle.std.specs.Int.Bits.{bit_or}
use Rattle.std.proofs.lemmas.Bool.{cases_eq, cases_lt}
use Rattle.std.proofs.lemmas.List.{get_or-map, get_or-set_other, get_or-set_same, get_or_default, get_or_past, length-map, length-set}
use Rattle.std.proofs.lemmas.Nat.Bits.{bit_at_ones, bit_at_set_other, bit_at_set_same}
use Rattle.table_rules.specs.Objects.{Obj}
use Rattle.column_block.specs.Filters.{CoversAll, is_set, may_have, word_of}

-- a word with bit k set
abbrev with_bit : ℕ → ℕ → ℕ
with_bit word k = bit_or word (1 * 2 ^ k % 2 ^ 64)

-- words, of which the one at an index has bit k set
abbrev pub words_with : List ℕ → ℕ → ℕ → List ℕ
words_with words at k = set words at (with_bit (get_or words at 0) k)

bit_one : (word k : ℕ) → k < 64 → (bit_at (with_bit word k) k == 1) ≡ true
bit_one word k low = eq-eqb _ _ (bit_at_set_same w64 word k low)

bit_still : (word k i : ℕ) → k < 64 → (bit_at word i == 1) ≡ true → (bit_at (with_bit word k) i == 1) ≡ true
bit_still word k i low on = by (cases_eq i k)
  where
    by : (i ≡ k) ⊎ (i ≢ k) → (bit_at (with_bit word k) i == 1) ≡ true
    by (inl same) = subst (λ j. (bit_at (with_bit word k) j == 1) ≡ true) (sym same) (bit_one word k low)
    by (inr apart) = ap (λ b. b == 1) (bit_at_set_other w64 word k low i apart) ∙ on

-- the bit that is set is 1
pub bit_set : (words : List ℕ) (n at : ℕ) → at ≡ word_of (length words) n → at < length words → is_set (words_with words at (n % 64)) n ≡ true
bit_set words n at is low =
    let new = words_with words at (n % 64) in
    ap (λ c. bit_at (get_or new (word_of c n) (2 ^ 64 - 1)) (n % 64) == 1) (length-set words at (with_bit (get_or words at 0) (n % 64)))
    ∙ (ap (λ i. bit_at (get_or new i (2 ^ 64 - 1)) (n % 64) == 1) (sym is)
    ∙ (ap (λ w. bit_at w (n % 64) == 1) (get_or-set_same words at (with_bit (get_or words at 0) (n % 64)) (2 ^ 64 - 1) low)
    ∙ bit_one (get_or words at 0) (n % 64) (omega arith)))

-- and each bit that was 1 is
pub bit_kept : (words : List ℕ) (n at m : ℕ) → at < length words → is_set words m ≡ true → is_set (words_with words at (n % 64)) m ≡ true
bit_kept words n at m low on =
    ap (λ c. bit_at (get_or (words_with words at (n % 64)) (word_of c m) (2 ^ 64 - 1)) (m % 64) == 1) (length-set words at (with_bit (get_or words at 0) (n % 64)))
    ∙ by (cases_eq (word_of (length words) m) at)
  where
    by : (word_of (length words) m ≡ at) ⊎ (word_of (length words) m ≢ at)
        → (bit_at (get_or (words_with words at (n % 64)) (word_of (length words) m) (2 ^ 64 - 1)) (m % 64) == 1) ≡ true
    by (inl same) =
        let old : (bit_at (get_or words at 0) (m % 64) == 1) ≡ true =
        ap (λ w. bit_at w (m % 64) == 1) (get_or_default words at 0 (2 ^ 64 - 1) low)
        ∙ (ap (λ i. bit_at (get_or words i (2 ^ 64 - 1)) (m % 64) == 1) (sym same) ∙ on) in
        ap (λ i. bit_at (get_or (words_with words at (n % 64)) i (2 ^ 64 - 1)) (m % 64) == 1) same
        ∙ (ap (λ w. bit_at w (m % 64) == 1) (get_or-set_same words at (with_bit (get_or words at 0) (n % 64)) (2 ^ 64 - 1) low)
        ∙ bit_still (get_or words at 0) (n % 64) (m % 64) (omega arith) old)
    by (inr apart) =
        ap (λ w. bit_at w (m % 64) == 1) (get_or-set_other words at (word_of (length words) m) (with_bit (get_or words at 0) (n % 64)) (2 ^ 64 - 1) apart) ∙ on

-- each bit of a word that is not there counts as 1
pub bit_past : (words : List ℕ) (n at : ℕ) → at ≡ word_of (length words) n → length words ≤ at → is_set words n ≡ true
bit_past words n at is high =
    ap (λ i. bit_at (get_or words i (2 ^ 64 - 1)) (n % 64) == 1) (sym is)
    ∙ (ap (λ w. bit_at w (n % 64) == 1) (get_or_past words at (2 ^ 64 - 1) high)
    ∙ eq-eqb _ _ (bit_at_ones 64 (n % 64) (omega arith)))

-- ---- the bits of ids

-- those of the first ids, and that of the next one
pub covers_more : (old new : List ℕ) (ids : List ℤ) (i : ℕ) → ((j : ℕ) → j < i → may_have old (get_or ids j (pos 0)) ≡ true)
    → ((m : ℕ) → is_set old m ≡ true → is_set new m ≡ true) → may_have new (get_or ids i (pos 0)) ≡ true
    → (j : ℕ) → j < i + 1 → may_have new (get_or ids j (pos 0)) ≡ true
covers_more old new ids i first kept own j low = by (cases_lt j i)
  where
    by : (j < i) ⊎ (i ≤ j) → may_have new (get_or ids j (pos 0)) ≡ true
    by (inl less) = kept (cast_unsigned w64 (get_or ids j (pos 0))) (first j less)
    by (inr from) = subst (λ k. may_have new (get_or ids k (pos 0)) ≡ true) (omega (arith, low, from)) own

-- those of all ids
pub covers_all : (words : List ℕ) (ids : List ℤ) (n : ℕ) → length ids ≤ n → ((j : ℕ) → j < n → may_have words (get_or ids j (pos 0)) ≡ true) → CoversAll words ids
covers_all words ids n long each i d low =
    ap (λ id. may_have words id) (get_or_default ids i d (pos 0) low) ∙ each i (omega (arith, low, long))

-- an id whose bit is 0 is that of no row
pub none_has : (objects : List Obj) (ids : List ℤ) (words : List ℕ) (id : ℤ) → ids ≡ map (λ o. o.id) objects → CoversAll words ids → may_have words id ≡ false
    → All (λ o. o.id ≢ id) objects
none_has objects ids words id is covers out i d low same =
    let at : get_or ids i (pos 0) ≡ id = ap (λ l. get_or l i (pos 0)) is ∙ (get_or-map (λ o. o.id) objects i d (pos 0) low ∙ same) in
    let there : i < length ids = omega (arith, low, ap length is, length-map objects (λ o. o.id)) in
    differ (sym (covers i (pos 0) there) ∙ (ap (λ z. may_have words z) at ∙ out))
  where
    differ : true ≡ false → ⊥
    differ h = absurd (cc h)
