-- Lists of numbers: membership, the numbers below a bound, the first that passes, different numbers.
use Rattle.std.proofs.Common.{◌≡◌, ℕ, ◌+◌, ◌<◌, ◌≤◌, ◌==◌, List, [], ◌∷◌, ◌++◌, length, Bool, true, false, not, ◌&&◌, ◌||◌, cond, Some, None, zero, suc, ⊎_elim, refl, sym, ◌∙◌, ap, subst, arith, filter, count_by, find, eq-eqb, ne_eqb, eqb-true}
use Rattle.std.specs.List.{list_any, list_all}
use Rattle.std.proofs.lemmas.Bool.{and_parts, or_cases, or_parts, cases_Bool, cases_eq, and_from, or_from, or_left, or_right, true_from_ne_false, false_from_ne_true, true≢false, false≢true, both_ways, not-true, not_from_false, cond-true, cond-false}
use Rattle.std.proofs.Common.{Contains, get_or}
use Rattle.std.proofs.lemmas.List.Elements.{Contains-append_right}
use Rattle.scan_rules.proofs.Lists.{any_cases, any_finds, any_later, any_push, any_stays, any_there, count_cons, count_push, weight}
use Rattle.scan_rules.specs.Numbers.{are_distinct, below, has}

-- what a filter keeps passes
pub has_filter : (p : ℕ → Bool) (xs : List ℕ) (x : ℕ) → has (filter p xs) x ≡ true → p x ≡ true
has_filter p [] x h = absurd (false≢true h)
has_filter p (y ∷ ys) x h = ⊎_elim
    (λ t. ⊎_elim (λ e. subst (λ z. p z ≡ true) (eqb-true y x e) t) (λ r. has_filter p ys x r) (or_cases (y == x) _ (sym (ap (λ b. has (cond b (y ∷ filter p ys) (filter p ys)) x) t) ∙ h)))
    (λ f. has_filter p ys x (sym (ap (λ b. has (cond b (y ∷ filter p ys) (filter p ys)) x) f) ∙ h))
    (cases_Bool (p y))

-- and it is of the list
pub kept_there : (p : ℕ → Bool) (xs : List ℕ) (x : ℕ) → has (filter p xs) x ≡ true → has xs x ≡ true
kept_there p [] x h = h
kept_there p (y ∷ ys) x h = ⊎_elim
    (λ t. ⊎_elim (λ e. or_left (y == x) _ e) (λ r. or_right (y == x) _ (kept_there p ys x r)) (or_cases (y == x) _ (sym (ap (λ b. has (cond b (y ∷ filter p ys) (filter p ys)) x) t) ∙ h)))
    (λ f. or_right (y == x) _ (kept_there p ys x (sym (ap (λ b. has (cond b (y ∷ filter p ys) (filter p ys)) x) f) ∙ h)))
    (cases_Bool (p y))

-- what passes is kept
pub filter_has : (p : ℕ → Bool) (xs : List ℕ) (x : ℕ) → has xs x ≡ true → p x ≡ true → has (filter p xs) x ≡ true
filter_has p [] x h k = h
filter_has p (y ∷ ys) x h k = ⊎_elim
    (λ t. ap (λ b. has (cond b (y ∷ filter p ys) (filter p ys)) x) t ∙ ⊎_elim (λ e. or_left (y == x) _ e) (λ r. or_right (y == x) _ (filter_has p ys x r k)) (or_cases (y == x) _ h))
    (λ f. ap (λ b. has (cond b (y ∷ filter p ys) (filter p ys)) x) f ∙ ⊎_elim (λ e. absurd (both_ways (p y) f (subst (λ z. p z ≡ true) (sym (eqb-true y x e)) k))) (λ r. filter_has p ys x r k) (or_cases (y == x) _ h))
    (cases_Bool (p y))

-- a number that passes is what clauses say by Contains
pub has_contains : (xs : List ℕ) (x : ℕ) → has xs x ≡ true → Contains xs x
has_contains xs x h = let f = any_finds (λ y. y == x) xs h in
    subst (Contains xs) (eqb-true f.1 x f.4) (subst (λ (l : List ℕ). Contains l f.1) (sym f.3) (Contains-append_right f.0 (f.1 ∷ f.2) f.1 (0, omega arith, refl)))

-- the number at a place is in the list
holds_has : (k : ℕ) (xs : List ℕ) (x : ℕ) → k < length xs → get_or xs k x ≡ x → has xs x ≡ true
holds_has k [] x low here = absurd (omega (arith, low))
holds_has zero (y ∷ ys) x low here = or_left (y == x) _ (eq-eqb y x here)
holds_has (suc k) (y ∷ ys) x low here = or_right (y == x) _ (holds_has k ys x (omega (arith, low)) here)

-- what clauses say by Contains passes the test
pub contains_has : (xs : List ℕ) (x : ℕ) → Contains xs x → has xs x ≡ true
contains_has xs x there = holds_has there.0 xs x there.1 there.2

-- where all pass, each does
pub all_has : (p : ℕ → Bool) (xs : List ℕ) (x : ℕ) → list_all p xs ≡ true → has xs x ≡ true → p x ≡ true
all_has p [] x a h = absurd (false≢true h)
all_has p (y ∷ ys) x a h = ⊎_elim (λ e. subst (λ z. p z ≡ true) (eqb-true y x e) (and_parts _ _ a).0) (λ r. all_has p ys x (and_parts _ _ a).1 r) (or_cases (y == x) _ h)

-- where not all pass, some element does not
pub all_fails : (p : ℕ → Bool) (xs : List ℕ) → list_all p xs ≡ false → (x : ℕ) × (has xs x ≡ true) × (p x ≡ false)
all_fails p [] h = absurd (true≢false h)
all_fails p (y ∷ ys) h = ⊎_elim
    (λ t. let f = all_fails p ys (sym (ap (λ b. b && list_all p ys) t) ∙ h) in (f.0, or_right (y == f.0) _ f.1, f.2))
    (λ f. (y, or_left (y == y) _ (eq-eqb y y refl), f))
    (cases_Bool (p y))

-- all pass where each does
pub all_from_has : (p : ℕ → Bool) (xs : List ℕ) → ((x : ℕ) → has xs x ≡ true → p x ≡ true) → list_all p xs ≡ true
all_from_has p xs h = true_from_ne_false _ (λ f. let w = all_fails p xs f in both_ways (p w.0) w.2 (h w.0 w.1))

-- each number below the bound is there
pub has_below : (n x : ℕ) → x < n → has (below n) x ≡ true
unfolding below
has_below zero x h = absurd (omega (arith, h))
has_below (suc n) x h = ⊎_elim
    (λ e. any_later (λ y. y == x) (below n) (n ∷ []) (or_left (n == x) false (eq-eqb n x (sym e))))
    (λ ne. any_stays (λ y. y == x) (below n) (n ∷ []) (has_below n x (omega (arith, h, ne))))
    (cases_eq x n)

-- and no other
pub below_has : (n x : ℕ) → has (below n) x ≡ true → x < n
unfolding below
below_has zero x h = absurd (false≢true h)
below_has (suc n) x h = ⊎_elim
    (λ t. let i : x < n = below_has n x t in omega (arith, i))
    (λ t. ⊎_elim (λ e. let q : n ≡ x = eqb-true n x e in omega (arith, q)) (λ f. absurd (false≢true f)) (or_cases (n == x) false t))
    (any_cases (λ y. y == x) (below n) (n ∷ []) h)

-- where none of a front passes, the first that does is of the rest
pub find_append : (p : ℕ → Bool) (xs ys : List ℕ) → list_any p xs ≡ false → find p (xs ++ ys) ≡ find p ys
find_append p [] ys h = refl
find_append p (x ∷ xs) ys h = cond-false (p x) _ _ (or_parts _ _ h).0 ∙ find_append p xs ys (or_parts _ _ h).1

-- what is found in a front is found in the whole
find_stays : (p : ℕ → Bool) (xs ys : List ℕ) → list_any p xs ≡ true → find p (xs ++ ys) ≡ find p xs
find_stays p [] ys h = absurd (false≢true h)
find_stays p (x ∷ xs) ys h = ⊎_elim
    (λ t. cond-true (p x) _ _ t ∙ sym (cond-true (p x) _ _ t))
    (λ f. cond-false (p x) _ _ f ∙ (find_stays p xs ys (sym (ap (λ b. b || list_any p xs) f) ∙ h) ∙ sym (cond-false (p x) _ _ f)))
    (cases_Bool (p x))

-- where none below n passes, each fails
none_below : (p : ℕ → Bool) (n x : ℕ) → list_any p (below n) ≡ false → x < n → p x ≡ false
none_below p n x h l = false_from_ne_true (p x) (λ t. let f = any_finds (λ y. y == x) (below n) (has_below n x l) in
    both_ways _ h (ap (list_any p) f.3 ∙ any_there p f.0 f.1 f.2 (subst (λ z. p z ≡ true) (sym (eqb-true f.1 x f.4)) t)))

-- the least number below n that passes
pub record IsFirst (p : ℕ → Bool) (n d : ℕ) : Type 0 where
  pub low : d < n
  pub passes : p d ≡ true
  pub before : (e : ℕ) → e < d → p e ≡ false

-- it is what is found
pub find_below : (p : ℕ → Bool) (n d : ℕ) → find p (below n) ≡ Some d → IsFirst p n d
unfolding below
find_below p zero d h = cc
find_below p (suc n) d h = ⊎_elim
    (λ t. let i = find_below p n d (sym (find_stays p (below n) (n ∷ []) t) ∙ h) in let l : d < n = i.low in record { low = omega (arith, l); passes = i.passes; before = i.before })
    (λ f. ⊎_elim
    (λ t. let e : Some n ≡ Some d = sym (cond-true (p n) (Some n) None t) ∙ (sym (find_append p (below n) (n ∷ []) f) ∙ h) in
    let q : n ≡ d = cc in
    record { low = omega (arith, q); passes = subst (λ z. p z ≡ true) q t; before = λ k l. none_below p n k f (omega (arith, q, l)) })
    (λ g. let e : None ≡ Some d = sym (cond-false (p n) (Some n) None g) ∙ (sym (find_append p (below n) (n ∷ []) f) ∙ h) in cc)
    (cases_Bool (p n)))
    (cases_Bool (list_any p (below n)))

-- a new number at the end of different ones
pub distinct_push : (xs : List ℕ) (x : ℕ) → are_distinct xs ≡ true → has xs x ≡ false → are_distinct (xs ++ x ∷ []) ≡ true
distinct_push [] x d h = refl
distinct_push (y ∷ ys) x d h = and_from _ _
    (not_from_false _ (any_push (λ z. z == y) ys x ∙ or_from _ _ (not-true _ (and_parts _ _ d).0) (ne_eqb x y (λ e. both_ways _ (or_parts _ _ h).0 (eq-eqb y x (sym e))))))
    (distinct_push ys x (and_parts _ _ d).1 (or_parts _ _ h).1)

-- a weaker test counts no less
pub count_le : (p q : ℕ → Bool) (xs : List ℕ) → ((x : ℕ) → q x ≡ true → p x ≡ true) → count_by q xs ≤ count_by p xs
count_le p q [] w = omega arith
count_le p q (x ∷ xs) w =
    let i : count_by q xs ≤ count_by p xs = count_le p q xs w in
    let a : count_by q (x ∷ xs) ≡ cond (q x) 1 0 + count_by q xs = count_cons q x xs in
    let b : count_by p (x ∷ xs) ≡ cond (p x) 1 0 + count_by p xs = count_cons p x xs in
    ⊎_elim
    (λ t. let u : weight (q x) ≡ 1 = cond-true (q x) 1 0 t in let v : weight (p x) ≡ 1 = cond-true (p x) 1 0 (w x t) in omega (arith, i, a, b, u, v))
    (λ f. let u : weight (q x) ≡ 0 = cond-false (q x) 1 0 f in omega (arith, i, a, b, u))
    (cases_Bool (q x))

-- the numbers that pass, but for one
abbrev pub but : (ℕ → Bool) → ℕ → ℕ → Bool
but p x y = p y && not (y == x)

-- they are fewer by one
pub count_less : (p : ℕ → Bool) (n x : ℕ) → x < n → p x ≡ true → count_by (but p x) (below n) + 1 ≤ count_by p (below n)
unfolding below
count_less p zero x l t = absurd (omega (arith, l))
count_less p (suc n) x l t =
    let a : count_by (but p x) (below n ++ n ∷ []) ≡ count_by (but p x) (below n) + cond (but p x n) 1 0 = count_push (but p x) (below n) n in
    let b : count_by p (below n ++ n ∷ []) ≡ count_by p (below n) + cond (p n) 1 0 = count_push p (below n) n in
    ⊎_elim
    (λ e. let c : count_by (but p x) (below n) ≤ count_by p (below n) = count_le p (but p x) (below n) (λ y h. (and_parts _ _ h).0) in
    let u : weight (p n) ≡ 1 = cond-true (p n) 1 0 (subst (λ z. p z ≡ true) e t) in
    let v : weight (but p x n) ≡ 0 = cond-false (but p x n) 1 0 (false_from_ne_true _ (λ h. both_ways _ (not-true _ (and_parts _ _ h).1) (eq-eqb n x (sym e)))) in
    omega (arith, a, b, c, u, v))
    (λ ne. let i : count_by (but p x) (below n) + 1 ≤ count_by p (below n) = count_less p n x (omega (arith, l, ne)) t in
    let m : n == x ≡ false = ne_eqb n x (λ e. ne (sym e)) in
    ⊎_elim
    (λ h. let u : weight (p n) ≡ 1 = cond-true (p n) 1 0 h in let v : weight (but p x n) ≡ 1 = cond-true (but p x n) 1 0 (and_from _ _ h (not_from_false _ m)) in omega (arith, a, b, i, u, v))
    (λ h. let u : weight (p n) ≡ 0 = cond-false (p n) 1 0 h in let v : weight (but p x n) ≡ 0 = cond-false (but p x n) 1 0 (ap (λ b. b && not (n == x)) h) in omega (arith, a, b, i, u, v))
    (cases_Bool (p n)))
    (cases_eq x n)

-- different numbers that pass, all below n, are no more than those below n that pass
pub distinct_fits : (p : ℕ → Bool) (n : ℕ) (xs : List ℕ) → are_distinct xs ≡ true → ((x : ℕ) → has xs x ≡ true → (x < n) × (p x ≡ true)) → length xs ≤ count_by p (below n)
distinct_fits p n [] d h = omega arith
distinct_fits p n (x ∷ xs) d h =
    let here = h x (or_left (x == x) (has xs x) (eq-eqb x x refl)) in
    let parts = and_parts (not (has xs x)) (are_distinct xs) d in
    let fewer : count_by (but p x) (below n) + 1 ≤ count_by p (below n) = count_less p n x here.0 here.1 in
    let others : (y : ℕ) → has xs y ≡ true → (y < n) × (but p x y ≡ true) = λ y k.
    let there = h y (or_right (x == y) (has xs y) k) in
    let new : y == x ≡ false = ne_eqb y x (λ e. both_ways (has xs x) (not-true (has xs x) parts.0) (subst (λ z. has xs z ≡ true) e k)) in
    (there.0, and_from (p y) (not (y == x)) there.1 (not_from_false (y == x) new)) in
    let rest : length xs ≤ count_by (but p x) (below n) = distinct_fits (but p x) n xs parts.1 others in
    omega (arith, fewer, rest)
