-- The first number below a bound that passes, and the last of a list.
use Rattle.std.proofs.Common.{◌≡◌, ℕ, ◌<◌, ◌==◌, ◌||◌, List, [], ◌∷◌, ◌++◌, Bool, true, false, cond, Option, Some, None, zero, suc, ◌⊎◌, inl, inr, ⊎_elim, refl, sym, ◌∙◌, ap, subst, arith, filter, find, eq-eqb}
use Rattle.std.specs.List.{list_any, last_or}
use Rattle.std.proofs.lemmas.Bool.{cases_Bool, cases_eq, both_ways, or_left, false≢true, cond-true, cond-false}
use Rattle.std.proofs.lemmas.List.Elements.{filter-append}
use Rattle.scan_rules.proofs.Lists.{any_later, any_none}
use Rattle.scan_rules.proofs.Numbers.{IsFirst, find_append}
use Rattle.scan_rules.specs.Numbers.{below, has}

-- the first that passes
pub find_none : (p : ℕ → Bool) (xs : List ℕ) → list_any p xs ≡ false → find p xs ≡ None
find_none p [] h = refl
find_none p (x ∷ xs) h = ⊎_elim (λ t. absurd (both_ways _ h (or_left (p x) _ t))) (λ f. cond-false (p x) _ _ f ∙ find_none p xs (sym (ap (λ b. b || list_any p xs) f) ∙ h)) (cases_Bool (p x))

-- what is found in a front is found in the whole
find_first : (p : ℕ → Bool) (xs ys : List ℕ) (d : ℕ) → find p xs ≡ Some d → find p (xs ++ ys) ≡ Some d
find_first p [] ys d h = cc
find_first p (x ∷ xs) ys d h = ⊎_elim (λ t. cond-true (p x) _ _ t ∙ (sym (cond-true (p x) _ _ t) ∙ h)) (λ f. cond-false (p x) _ _ f ∙ find_first p xs ys d (sym (cond-false (p x) _ _ f) ∙ h)) (cases_Bool (p x))

-- where each number below a bound fails, none passes
pub all_fail_below : (p : ℕ → Bool) (n : ℕ) → ((e : ℕ) → e < n → p e ≡ false) → list_any p (below n) ≡ false
unfolding below
all_fail_below p zero h = refl
all_fail_below p (suc n) h = any_none p (below n) n (h n (omega arith)) ∙ all_fail_below p n (λ e l. h e (omega (arith, l)))

-- the least number that passes is what is found
pub find_is : (p : ℕ → Bool) (n d : ℕ) → IsFirst p n d → find p (below n) ≡ Some d
unfolding below
find_is p zero d f = let l : d < 0 = f.low in absurd (omega (arith, l))
find_is p (suc n) d f = let l : d < suc n = f.low in ⊎_elim
    (λ e. find_append p (below n) (n ∷ []) (all_fail_below p n (λ x m. f.before x (omega (arith, m, e)))) ∙ (cond-true (p n) (Some n) None (subst (λ z. p z ≡ true) e f.passes) ∙ ap (λ z. Some z) (sym e)))
    (λ ne. find_first p (below n) (n ∷ []) d (find_is p n d (record { low = omega (arith, l, ne); passes = f.passes; before = f.before })))
    (cases_eq d n)

-- tests that agree below a bound keep the same numbers
pub filter_below : (n : ℕ) (p q : ℕ → Bool) → ((x : ℕ) → x < n → p x ≡ q x) → filter p (below n) ≡ filter q (below n)
unfolding below
filter_below zero p q h = refl
filter_below (suc n) p q h = filter-append p (below n) (n ∷ []) ∙ (ap (λ (l : List ℕ). l ++ cond (p n) (n ∷ []) []) (filter_below n p q (λ x l. h x (omega (arith, l)))) ∙ (ap (λ b. filter q (below n) ++ cond b (n ∷ []) []) (h n (omega arith)) ∙ sym (filter-append q (below n) (n ∷ []))))

-- a list with a last element
last_splits : (o : Option ℕ) (xs : List ℕ) (c : ℕ) → last_or o xs ≡ Some c → ((xs ≡ []) × (o ≡ Some c)) ⊎ ((front : List ℕ) × (xs ≡ front ++ c ∷ []))
last_splits o [] c h = inl (refl, h)
last_splits o (x ∷ xs) c h = ⊎_elim
    (λ t. inr ([], let a = t.0 in let b = t.1 in cc))
    (λ t. inr (x ∷ t.0, ap (λ (l : List ℕ). x ∷ l) t.1))
    (last_splits (Some x) xs c h)

-- a list is cut before its last element
pub last_is : (xs : List ℕ) (c : ℕ) → last_or None xs ≡ Some c → (front : List ℕ) × (xs ≡ front ++ c ∷ [])
last_is xs c h = ⊎_elim (λ t. let b = t.1 in absurd (cc)) (λ t. t) (last_splits None xs c h)

-- a list with an element has a last one
pub has_last : (o : Option ℕ) (xs : List ℕ) (x : ℕ) → has xs x ≡ true → (c : ℕ) × (last_or o xs ≡ Some c)
has_last o [] x h = absurd (false≢true h)
has_last o (y ∷ []) x h = (y, refl)
has_last o (y ∷ z ∷ ys) x h = some_last (Some y) z ys where
  some_last : (o : Option ℕ) (z : ℕ) (ys : List ℕ) → (c : ℕ) × (last_or o (z ∷ ys) ≡ Some c)
  some_last o z [] = (z, refl)
  some_last o z (w ∷ ws) = some_last (Some z) w ws

-- the last element is in the list
pub has_end : (front : List ℕ) (c : ℕ) → has (front ++ c ∷ []) c ≡ true
has_end front c = any_later (λ y. y == c) front (c ∷ []) (or_left (c == c) false (eq-eqb c c refl))
