-- Two ascending lists, merged.
use Rattle.std.proofs.Common.{◌≡◌, ℕ, ◌+◌, ◌<◌, Bool, true, false, ◌&&◌, ◌||◌, List, [], ◌∷◌, filter, cond}
use Rattle.std.proofs.Common.{refl, ap, sym, subst, ◌∙◌, arith, suc, zero}
use Rattle.std.specs.List.{range_with_len}
use Rattle.chunk_store.specs.Merged.{merged, merged_from, takes_first}

merged_nil : (l : List ℕ) → merged l [] ≡ l
merged_nil [] = refl
merged_nil (x ∷ l) = refl

first_at : (x : ℕ) (rest ys : List ℕ) → takes_first (x ∷ rest) ys ≡ true → merged (x ∷ rest) ys ≡ x ∷ merged rest ys
first_at x rest [] h = ap (λ l. x ∷ l) (sym (merged_nil rest))
first_at x rest (y ∷ ys) h = ap (λ b. cond b (x ∷ merged rest (y ∷ ys)) (y ∷ merged_from x rest (merged rest) ys)) h

second_at : (xs : List ℕ) (y : ℕ) (rest : List ℕ) → takes_first xs (y ∷ rest) ≡ false → merged xs (y ∷ rest) ≡ y ∷ merged xs rest
second_at [] y rest h = refl
second_at (x ∷ xs) y rest h = ap (λ b. cond b (x ∷ merged xs (y ∷ rest)) (y ∷ merged_from x xs (merged xs) rest)) h

-- the first list's element comes next
pub first_next : (xs ys : List ℕ) (x : ℕ) (rest : List ℕ) → takes_first xs ys ≡ true → xs ≡ x ∷ rest → merged xs ys ≡ x ∷ merged rest ys
first_next xs ys x rest h e = ap (λ l. merged l ys) e ∙ first_at x rest ys (subst (λ l. takes_first l ys ≡ true) e h)

-- the second list's element comes next
pub second_next : (xs ys : List ℕ) (y : ℕ) (rest : List ℕ) → takes_first xs ys ≡ false → ys ≡ y ∷ rest → merged xs ys ≡ y ∷ merged xs rest
second_next xs ys y rest h e = ap (merged xs) e ∙ second_at xs y rest (subst (λ l. takes_first xs l ≡ false) e h)

-- none is left
pub none_next : (xs ys : List ℕ) → takes_first xs ys ≡ false → ys ≡ [] → merged xs ys ≡ []
none_next [] ys h e = e
none_next (x ∷ xs) [] h e = absurd (cc h)
none_next (x ∷ xs) (y ∷ ys) h e = absurd (cc e)

-- an empty list is never taken first
pub none_first : (xs ys : List ℕ) → takes_first xs ys ≡ true → xs ≡ [] → merged xs ys ≡ []
none_first [] ys h e = absurd (cc h)
none_first (x ∷ xs) ys h e = absurd (cc e)

-- the list begins above a number
abbrev StartsAbove : ℕ → List ℕ → Type 0
StartsAbove a [] = Unit {0}
StartsAbove a (y ∷ ys) = a < y

above_step : (b : Bool) (a x : ℕ) (kept : List ℕ) → a < x → StartsAbove a kept → StartsAbove a (cond b (x ∷ kept) kept)
above_step true a x kept low h = low
above_step false a x kept low h = h

starts_above : (p : ℕ → Bool) (a b n : ℕ) → b < a → StartsAbove b (filter p (range_with_len a n))
starts_above p a b zero low = tt
starts_above p a b (suc n) low = above_step (p a) b a (filter p (range_with_len (a + 1) n)) low (starts_above p (a + 1) b n (omega arith))

front_first : (a : ℕ) (xs ys : List ℕ) → StartsAbove a ys → merged (a ∷ xs) ys ≡ a ∷ merged xs ys
front_first a xs [] h = ap (λ l. a ∷ l) (sym (merged_nil xs))
front_first a xs (y ∷ ys) h = first_at a xs (y ∷ ys) (grind arith)

front_second : (a : ℕ) (xs ys : List ℕ) → StartsAbove a xs → merged xs (a ∷ ys) ≡ a ∷ merged xs ys
front_second a [] ys h = refl
front_second a (x ∷ xs) ys h = second_at (x ∷ xs) a ys (grind arith)

merged_step : (b c : Bool) (a : ℕ) (xs ys all : List ℕ) → (b && c) ≡ false → StartsAbove a xs → StartsAbove a ys → merged xs ys ≡ all
    → merged (cond b (a ∷ xs) xs) (cond c (a ∷ ys) ys) ≡ cond (b || c) (a ∷ all) all
merged_step true true a xs ys all no_both hx hy e = absurd (cc no_both)
merged_step true false a xs ys all no_both hx hy e = front_first a xs ys hy ∙ ap (λ l. a ∷ l) e
merged_step false true a xs ys all no_both hx hy e = front_second a xs ys hx ∙ ap (λ l. a ∷ l) e
merged_step false false a xs ys all no_both hx hy e = e

-- the numbers that pass one of two tests, which none passes both of, are those that pass either, merged
pub merged_filters : (p q : ℕ → Bool) (a n : ℕ) → ((c : ℕ) → (p c && q c) ≡ false)
    → merged (filter p (range_with_len a n)) (filter q (range_with_len a n)) ≡ filter (λ c. p c || q c) (range_with_len a n)
merged_filters p q a zero apart = refl
merged_filters p q a (suc n) apart =
    merged_step (p a) (q a) a (filter p (range_with_len (a + 1) n)) (filter q (range_with_len (a + 1) n)) _ (apart a)
    (starts_above p (a + 1) a n (omega arith)) (starts_above q (a + 1) a n (omega arith)) (merged_filters p q (a + 1) n apart)
