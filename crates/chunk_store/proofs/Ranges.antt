-- Filters of the numbers from 0 on.
use Rattle.std.proofs.Common.{◌≡◌, ℕ, ◌+◌, ◌<◌, ◌≤◌, ◌==◌, Bool, true, false, ◌&&◌, List, [], ◌∷◌, ◌++◌, filter, cond, map}
use Rattle.std.proofs.Common.{refl, ap, sym, subst, ◌∙◌, arith, suc, zero, length, slice_get, ◌⊎◌, inl, inr, ◌≢◌}
use Rattle.std.specs.List.{range_with_len, All}
use Rattle.std.proofs.lemmas.List.{append-nil, append_assoc}
use Rattle.std.proofs.lemmas.List.Elements.{All-filter, filter-append}
use Rattle.std.proofs.lemmas.List.FromFn.{filter_of_map_range_with_len_more, get_or-range_with_len, length-range_with_len}
use Rattle.std.proofs.lemmas.Bool.{eq-eqb}
use Rattle.std.proofs.lemmas.Bool.Decides.{eqb_tells}
use Rattle.table_rules.specs.Objects.{Obj}
use Rattle.chunk_rules.specs.Places.{passes, places_by}
use Rattle.chunk_store.specs.Lists.{kept_if}

same_map : (l : List ℕ) → map (λ k. k) l ≡ l
same_map [] = refl
same_map (x ∷ l) = ap (λ r. x ∷ r) (same_map l)

-- a number more, of those from one on
pub filter_more_from : (p : ℕ → Bool) (a n : ℕ) → filter p (range_with_len a (n + 1)) ≡ filter p (range_with_len a n) ++ kept_if (p (a + n)) (a + n)
filter_more_from p a n =
    ap (filter p) (sym (same_map (range_with_len a (n + 1))))
    ∙ (filter_of_map_range_with_len_more p (λ k. k) a n (a + n) refl
    ∙ ap (λ l. filter p l ++ kept_if (p (a + n)) (a + n)) (same_map (range_with_len a n)))

-- a number more
pub filter_more : (p : ℕ → Bool) (n : ℕ) → filter p (range_with_len 0 (n + 1)) ≡ filter p (range_with_len 0 n) ++ kept_if (p n) n
filter_more p n =
    let e : 0 + n ≡ n = omega arith in
    subst (λ k. filter p (range_with_len 0 (n + 1)) ≡ filter p (range_with_len 0 n) ++ kept_if (p k) k) e (filter_more_from p 0 n)

range_both : (a n m : ℕ) → range_with_len a (n + m) ≡ range_with_len a n ++ range_with_len (a + n) m
range_both a zero m =
    let none : a + 0 ≡ a = omega arith in
    let all : zero + m ≡ m = omega arith in
    ap (range_with_len a) all ∙ ap (λ k. range_with_len k m) (sym none)
range_both a (suc n) m =
    let more : suc n + m ≡ suc (n + m) = omega arith in
    let here : a + 1 + n ≡ a + suc n = omega arith in
    ap (range_with_len a) more
    ∙ (ap (λ l. a ∷ l) (range_both (a + 1) n m)
    ∙ ap (λ k. a ∷ (range_with_len (a + 1) n ++ range_with_len k m)) here)

-- the numbers of two ranges, one after the other
pub filter_both : (p : ℕ → Bool) (a n m : ℕ) → filter p (range_with_len a (n + m)) ≡ filter p (range_with_len a n) ++ filter p (range_with_len (a + n) m)
filter_both p a n m = ap (filter p) (range_both a n m) ∙ filter-append p (range_with_len a n) (range_with_len (a + n) m)

-- tests that agree on the numbers keep the same
pub same_filter : (p q : ℕ → Bool) (a n : ℕ) → ((c : ℕ) → a ≤ c → c < a + n → p c ≡ q c)
    → filter p (range_with_len a n) ≡ filter q (range_with_len a n)
same_filter p q a zero h = refl
same_filter p q a (suc n) h =
    ap (λ b. cond b (a ∷ filter p (range_with_len (a + 1) n)) (filter p (range_with_len (a + 1) n))) (h a (omega arith) (omega arith))
    ∙ ap (λ l. cond (q a) (a ∷ l) l) (same_filter p q (a + 1) n (λ c low high. h c (omega arith) (omega arith)))

twice_step : (b : Bool) (q : ℕ → Bool) (x : ℕ) (kept rest : List ℕ) → filter q kept ≡ rest
    → filter q (cond b (x ∷ kept) kept) ≡ cond (b && q x) (x ∷ rest) rest
twice_step true q x kept rest e = ap (λ l. cond (q x) (x ∷ l) l) e
twice_step false q x kept rest e = e

-- a filter of a filter is one by both tests
pub filter_twice : (p q : ℕ → Bool) (l : List ℕ) → filter q (filter p l) ≡ filter (λ c. p c && q c) l
filter_twice p q [] = refl
filter_twice p q (x ∷ l) = twice_step (p x) q x (filter p l) (filter (λ c. p c && q c) l) (filter_twice p q l)

all_below : (n : ℕ) → All (λ c. c < n) (range_with_len 0 n)
all_below n k d h = rw (get_or-range_with_len 0 n k d (omega (arith, length-range_with_len 0 n, h))) (omega (arith, length-range_with_len 0 n, h))

-- what is kept of the numbers below n is below n
pub filter_below : (p : ℕ → Bool) (n : ℕ) → All (λ c. c < n) (filter p (range_with_len 0 n))
filter_below p n = All-filter p (λ c. c < n) (range_with_len 0 n) (all_below n)

-- each place is one of the table
pub places_there : (test : Obj → Bool) (objects : List Obj) → All (λ i. i < length objects) (places_by test objects)
places_there test objects = filter_below (λ i. passes test (slice_get objects i)) (length objects)

-- a number that is none of two
none_of : (b : Bool) (x c : ℕ) (kept : List ℕ) → x ≢ c → filter (λ d. d == c) kept ≡ [] → filter (λ d. d == c) (cond b (x ∷ kept) kept) ≡ []
none_of true x c kept other e = by (eqb_tells x c)
  where
    by : (((x == c) ≡ true) × (x ≡ c)) ⊎ (((x == c) ≡ false) × (x ≢ c)) → cond (x == c) (x ∷ filter (λ d. d == c) kept) (filter (λ d. d == c) kept) ≡ []
    by (inl is) = absurd (other is.1)
    by (inr is) = ap (λ b. cond b (x ∷ filter (λ d. d == c) kept) (filter (λ d. d == c) kept)) is.0 ∙ e
none_of false x c kept other e = e

none_below : (p : ℕ → Bool) (c a n : ℕ) → c < a → filter (λ d. d == c) (filter p (range_with_len a n)) ≡ []
none_below p c a zero low = refl
none_below p c a (suc n) low = none_of (p a) a c (filter p (range_with_len (a + 1) n)) (λ e. omega arith) (none_below p c (a + 1) n (omega arith))

one_here : (b : Bool) (c : ℕ) (kept : List ℕ) → filter (λ d. d == c) kept ≡ [] → filter (λ d. d == c) (cond b (c ∷ kept) kept) ≡ cond b (c ∷ []) []
one_here true c kept e = ap (λ t. cond t (c ∷ filter (λ d. d == c) kept) (filter (λ d. d == c) kept)) (eq-eqb c c refl) ∙ ap (λ l. c ∷ l) e
one_here false c kept e = e

one_later : (b t : Bool) (x c : ℕ) (kept : List ℕ) → x ≢ c → filter (λ d. d == c) kept ≡ cond t (c ∷ []) []
    → filter (λ d. d == c) (cond b (x ∷ kept) kept) ≡ cond t (c ∷ []) []
one_later true t x c kept other e = by (eqb_tells x c)
  where
    by : (((x == c) ≡ true) × (x ≡ c)) ⊎ (((x == c) ≡ false) × (x ≢ c)) → cond (x == c) (x ∷ filter (λ d. d == c) kept) (filter (λ d. d == c) kept) ≡ cond t (c ∷ []) []
    by (inl is) = absurd (other is.1)
    by (inr is) = ap (λ b. cond b (x ∷ filter (λ d. d == c) kept) (filter (λ d. d == c) kept)) is.0 ∙ e
one_later false t x c kept other e = e

next_above : (a c : ℕ) → a ≤ c → a ≢ c → a + 1 ≤ c
next_above zero zero le other = absurd (other refl)
next_above zero (suc c) le other = omega arith
next_above (suc a) zero le other = absurd (omega arith)
next_above (suc a) (suc c) le other = let e = next_above a c (omega arith) (λ e. other (ap suc e)) in omega (arith, e)

-- a number of the range is kept once, where it passes
pub one_of : (p : ℕ → Bool) (c a n : ℕ) → a ≤ c → c < a + n → filter (λ d. d == c) (filter p (range_with_len a n)) ≡ kept_if (p c) c
one_of p c a zero low high = absurd (omega arith)
one_of p c a (suc n) low high = by (eqb_tells a c) (λ other. one_of p c (a + 1) n (next_above a c low other) (omega arith))
  where
    by : (((a == c) ≡ true) × (a ≡ c)) ⊎ (((a == c) ≡ false) × (a ≢ c)) → (a ≢ c → filter (λ d. d == c) (filter p (range_with_len (a + 1) n)) ≡ kept_if (p c) c)
        → filter (λ d. d == c) (cond (p a) (a ∷ filter p (range_with_len (a + 1) n)) (filter p (range_with_len (a + 1) n))) ≡ kept_if (p c) c
    by (inl is) later = subst (λ x. filter (λ d. d == c) (cond (p x) (x ∷ filter p (range_with_len (a + 1) n)) (filter p (range_with_len (a + 1) n))) ≡ kept_if (p c) c) (sym is.1) (one_here (p c) c (filter p (range_with_len (a + 1) n)) (none_below p c (a + 1) n (omega (arith, is.1))))
    by (inr is) later = one_later (p a) (p c) a c (filter p (range_with_len (a + 1) n)) is.1 (later is.1)

-- what is kept, and then the rest
pub kept_front : (l : List ℕ) (b : Bool) (x : ℕ) (rest : List ℕ) → (l ++ kept_if b x) ++ rest ≡ l ++ cond b (x ∷ rest) rest
kept_front l true x rest = append_assoc l (x ∷ []) rest
kept_front l false x rest = ap (λ k. k ++ rest) (append-nil l)
