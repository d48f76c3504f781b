-- The four words of a query set and its ascending list tell the same.
use Rattle.std.proofs.Common.{◌≡◌, ◌≢◌, ℕ, ◌*◌, ◌/◌, ◌%◌, ◌^◌, ◌<◌, ◌≤◌, ◌==◌, nat_lt, List, [], ◌∷◌, ◌++◌, slice_index, Bool, true, false, cond, Option, None, zero, suc}
use Rattle.std.proofs.Common.{◌⊎◌, ⊎_elim, sym, ◌∙◌, ap, subst, arith, append-nil, filter, eq-eqb, lt-ltb, le-ltb, set}
use Rattle.std.specs.Option.{IfSome}
use Rattle.std.specs.List.{last_or}
use Rattle.std.specs.Int.{bit_at}
use Rattle.std.specs.Int.Bits.{bit_or}
use Rattle.std.proofs.lemmas.Bool.{cases_Bool, cases_eq, cases_lt, false_from_ne_true, both_ways, cond-true, cond-false}
use Rattle.std.proofs.lemmas.List.{get_or-set_same, get_or-set_other}
use Rattle.std.proofs.lemmas.List.Elements.{filter-append}
use Rattle.scan_rules.specs.Numbers.{below}
use Rattle.scan_rules.specs.QuerySets.{is_set, set_queries, AreFourWords}
use Rattle.scan_rules.proofs.Lists.{last_push}
use Rattle.std.proofs.Common.{Contains, IsTrue, ◌↔◌, w64}
use Rattle.std.specs.Int.Bits.{bit_and}
use Rattle.std.proofs.lemmas.List.{length-set}
use Rattle.std.proofs.lemmas.List.Elements.{All-set}
use Rattle.std.proofs.lemmas.Nat.{or_lt}
use Rattle.std.proofs.lemmas.Nat.Bits.{shr_and_one, bit_at_set_same, bit_at_set_other}
use Rattle.scan_rules.proofs.Numbers.{has_filter, filter_has, has_below, below_has, kept_there, has_contains, contains_has}

-- a number above the last that is kept is above each that passes
above_kept : (p : ℕ → Bool) (n q : ℕ) → IfSome (last_or None (filter p (below n))) (λ last. last < q) → (x : ℕ) → x < n → p x ≡ true → x < q
unfolding below
above_kept p zero q above x low t = absurd (omega (arith, low))
above_kept p (suc n) q above x low t = ⊎_elim
    (λ pn. let kept : filter p (below n ++ n ∷ []) ≡ filter p (below n) ++ n ∷ [] = filter-append p (below n) (n ∷ []) ∙ ap (λ (l : List ℕ). filter p (below n) ++ l) (cond-true (p n) (n ∷ []) [] pn) in
    let last : n < q = subst (λ (o : Option ℕ). IfSome o (λ l. l < q)) (last_push None (filter p (below n)) n) (subst (λ (l : List ℕ). IfSome (last_or None l) (λ l. l < q)) kept above) in
    omega (arith, last, low))
    (λ np. let kept : filter p (below n ++ n ∷ []) ≡ filter p (below n) = filter-append p (below n) (n ∷ []) ∙ (ap (λ (l : List ℕ). filter p (below n) ++ l) (cond-false (p n) (n ∷ []) [] np) ∙ append-nil _) in
    let ne : x ≢ n = λ e. both_ways _ np (subst (λ z. p z ≡ true) e t) in
    above_kept p n q (subst (λ (l : List ℕ). IfSome (last_or None l) (λ l. l < q)) kept above) x (omega (arith, low, ne)) t)
    (cases_Bool (p n))

-- what is kept once q passes too, which is above all that passed
filter_adds : (p r : ℕ → Bool) (q n : ℕ) → ((x : ℕ) → x < n → x ≢ q → r x ≡ p x) → r q ≡ true → ((x : ℕ) → x < n → p x ≡ true → x < q) → filter r (below n) ≡ filter p (below n) ++ cond (nat_lt q n) (q ∷ []) []
unfolding below
filter_adds p r q zero same added above = sym (cond-false (nat_lt q 0) (q ∷ []) [] (le-ltb q 0 (omega arith)))
filter_adds p r q (suc n) same added above =
    let i : filter r (below n) ≡ filter p (below n) ++ cond (nat_lt q n) (q ∷ []) [] = filter_adds p r q n (λ x low ne. same x (omega (arith, low)) ne) added (λ x low t. above x (omega (arith, low)) t) in
    let old : filter p (below n ++ n ∷ []) ≡ filter p (below n) ++ cond (p n) (n ∷ []) [] = filter-append p (below n) (n ∷ []) in
    let new : filter r (below n ++ n ∷ []) ≡ filter r (below n) ++ cond (r n) (n ∷ []) [] = filter-append r (below n) (n ∷ []) in
    ⊎_elim
    (λ l. let pn : p n ≡ false = false_from_ne_true _ (λ t. let a : n < q = above n (omega arith) t in absurd (omega (arith, a, l))) in
    let rn : r n ≡ false = same n (omega arith) (λ e. omega (arith, e, l)) ∙ pn in
    let here : cond (nat_lt q n) (q ∷ []) [] ≡ q ∷ [] = cond-true _ _ _ (lt-ltb q n l) in
    let there : cond (nat_lt q (suc n)) (q ∷ []) [] ≡ q ∷ [] = cond-true _ _ _ (lt-ltb q (suc n) (omega (arith, l))) in
    let o : cond (p n) (n ∷ []) [] ≡ [] = cond-false _ _ _ pn in
    let w : cond (r n) (n ∷ []) [] ≡ [] = cond-false _ _ _ rn in
    new ∙ (ap (λ (l : List ℕ). filter r (below n) ++ l) w ∙ (append-nil _ ∙ (i ∙ (ap (λ (l : List ℕ). filter p (below n) ++ l) here ∙ sym (ap (λ (l : List ℕ). l ++ cond (nat_lt q (suc n)) (q ∷ []) []) (old ∙ (ap (λ (l : List ℕ). filter p (below n) ++ l) o ∙ append-nil _)) ∙ ap (λ (l : List ℕ). filter p (below n) ++ l) there))))))
    (λ g. let none : cond (nat_lt q n) (q ∷ []) [] ≡ [] = cond-false _ _ _ (le-ltb q n g) in
    let j : filter r (below n) ≡ filter p (below n) = i ∙ (ap (λ (l : List ℕ). filter p (below n) ++ l) none ∙ append-nil _) in
    new ∙ (ap (λ (l : List ℕ). l ++ cond (r n) (n ∷ []) []) j ∙ sym (ap (λ (l : List ℕ). l ++ cond (nat_lt q (suc n)) (q ∷ []) []) old ∙ here (cases_eq q n) g)))
    (cases_lt q n)
  where
    here : (q ≡ n) ⊎ (q ≢ n) → n ≤ q → (filter p (below n) ++ cond (p n) (n ∷ []) []) ++ cond (nat_lt q (suc n)) (q ∷ []) [] ≡ filter p (below n) ++ cond (r n) (n ∷ []) []
    here c g = ⊎_elim
        (λ e. let pn : p n ≡ false = false_from_ne_true _ (λ t. let a : n < q = above n (omega arith) t in absurd (omega (arith, a, e))) in
        let rn : r n ≡ true = subst (λ z. r z ≡ true) e added in
        let old : cond (p n) (n ∷ []) [] ≡ [] = cond-false _ _ _ pn in
        let new : cond (r n) (n ∷ []) [] ≡ n ∷ [] = cond-true _ _ _ rn in
        let last : cond (nat_lt q (suc n)) (q ∷ []) [] ≡ q ∷ [] = cond-true _ _ _ (lt-ltb q (suc n) (omega (arith, e))) in
        ap (λ (l : List ℕ). (filter p (below n) ++ l) ++ cond (nat_lt q (suc n)) (q ∷ []) []) old
        ∙ (ap (λ (l : List ℕ). l ++ cond (nat_lt q (suc n)) (q ∷ []) []) (append-nil _)
        ∙ ap (λ (l : List ℕ). filter p (below n) ++ l) (last ∙ (ap (λ z. z ∷ []) e ∙ sym new))))
        (λ ne. let same_n : r n ≡ p n = same n (omega arith) (λ e. ne (sym e)) in
        let last : cond (nat_lt q (suc n)) (q ∷ []) [] ≡ [] = cond-false _ _ _ (le-ltb q (suc n) (omega (arith, g, ne))) in
        ap (λ (l : List ℕ). (filter p (below n) ++ cond (p n) (n ∷ []) []) ++ l) last ∙ (append-nil _ ∙ ap (λ b. filter p (below n) ++ cond b (n ∷ []) []) (sym same_n)))
        c

-- the word of query q with its bit set
abbrev pub with_bit : List ℕ → ℕ → ℕ
with_bit words q = bit_or (slice_index words (q / 64)) (1 * 2 ^ (q % 64) % 2 ^ 64)

-- the words with the bit of query q set
abbrev pub with_query : List ℕ → ℕ → List ℕ
with_query words q = set words (q / 64) (with_bit words q)

-- they are four words again
pub still_four : (words : List ℕ) (q : ℕ) → AreFourWords words → q < 256 → AreFourWords (with_query words q)
still_four words q h low =
    let four = h.four in
    record {
      four = length-set words (q / 64) (with_bit words q) ∙ four;
      fit = All-set (λ word. word < 2 ^ 64) words (q / 64) (with_bit words q) (or_lt 64 _ _ (h.fit (q / 64) 0 (omega (arith, low, four))) (omega arith)) h.fit;
    }

-- the bit of query q is set
query_set : (words : List ℕ) (q : ℕ) → AreFourWords words → q < 256 → is_set (with_query words q) q ≡ true
query_set words q h low =
    let four = h.four in
    eq-eqb _ _ (ap (λ w. bit_at w (q % 64)) (get_or-set_same words (q / 64) (with_bit words q) 0 (omega (arith, low, four))) ∙ bit_at_set_same w64 (slice_index words (q / 64)) (q % 64) (omega arith))

-- no other bit changes
others_same : (words : List ℕ) (q x : ℕ) → AreFourWords words → q < 256 → x ≢ q → is_set (with_query words q) x ≡ is_set words x
others_same words q x h low ne =
    let four = h.four in
    ⊎_elim
    (λ e. ap (λ b. b == 1) (ap (λ w. bit_at (slice_index (with_query words q) w) (x % 64)) e ∙ (ap (λ w. bit_at w (x % 64)) (get_or-set_same words (q / 64) (with_bit words q) 0 (omega (arith, low, four)))
    ∙ (bit_at_set_other w64 (slice_index words (q / 64)) (q % 64) (omega arith) (x % 64) (λ m. ne (omega (arith, e, m))) ∙ ap (λ w. bit_at (slice_index words w) (x % 64)) (sym e)))))
    (λ apart. ap (λ w. bit_at w (x % 64) == 1) (get_or-set_other words (q / 64) (x / 64) (with_bit words q) 0 apart))
    (cases_eq (x / 64) (q / 64))

-- setting the bit of a query above the last one appends it
pub appends : (words : List ℕ) (q : ℕ) → AreFourWords words → q < 256 → IfSome (last_or None (set_queries words)) (λ last. last < q) → set_queries (with_query words q) ≡ set_queries words ++ q ∷ []
appends words q h low above =
    filter_adds (is_set words) (is_set (with_query words q)) q 256 (λ x _ ne. others_same words q x h low ne) (query_set words q h low) (above_kept (is_set words) 256 q above)
    ∙ ap (λ (l : List ℕ). set_queries words ++ l) (cond-true (nat_lt q 256) (q ∷ []) [] (lt-ltb q 256 low))

-- the tested bit tells whether the query is in the list
pub bit_tells : (words : List ℕ) (q : ℕ) → q < 256 → IsTrue (bit_and (slice_index words (q / 64) / 2 ^ (q % 64)) 1 == 1) ↔ Contains (set_queries words) q
bit_tells words q low =
    let e : bit_and (slice_index words (q / 64) / 2 ^ (q % 64)) 1 ≡ bit_at (slice_index words (q / 64)) (q % 64) = shr_and_one (slice_index words (q / 64)) (q % 64) in (
      λ t. has_contains _ q (filter_has (is_set words) (below 256) q (has_below 256 q low) (ap (λ b. b == 1) (sym e) ∙ t)),
      λ c. ap (λ b. b == 1) e ∙ has_filter (is_set words) (below 256) q (contains_has _ q c),
    )

-- and no query from 256 on is
pub none_above : (words : List ℕ) (q : ℕ) → 256 ≤ q → Contains (set_queries words) q → ⊥
none_above words q high c = let low : q < 256 = below_has 256 q (kept_there (is_set words) (below 256) q (contains_has _ q c)) in omega (arith, low, high)
