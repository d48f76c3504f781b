-- Lists whose elements stand in order, as ascending ones: their elements, their length, what a filter keeps of them.
use Rattle.std.proofs.Common.{◌≡◌, ℕ, ◌+◌, ◌<◌, ◌≤◌, ◌==◌, List, [], ◌∷◌, ◌++◌, ◌||◌, All, AllPairs, Bool, true, false, not, cond, filter, reverse, length, get_or, zero, suc, ⊎_elim, refl, sym, ◌∙◌, ap, subst, arith, count_by, eq-eqb, eqb-true, ne_eqb}
use Rattle.std.proofs.lemmas.List.{reverse-append}
use Rattle.std.proofs.lemmas.Bool.{and_from, and_parts, both_ways, cases_eq, cond-true, cond-false, false_from_ne_true, false≢true, not-true, not_from_false, or_cases, or_left, or_parts, or_right}
use Rattle.std.proofs.lemmas.List.Kept.{AllPairs-cons}
use Rattle.std.proofs.lemmas.List.Elements.{filter-append}
use Rattle.std.proofs.lemmas.List.Quantifiers.{all_pairs_push}
use Rattle.scan_rules.proofs.Lists.{any_cases, any_finds, any_push, any_there, count_cons, weight}
use Rattle.scan_rules.proofs.Numbers.{below_has, has_contains}
use Rattle.scan_rules.specs.Numbers.{are_distinct, below, has}

-- the number at a place is in the list
pub has_at : (xs : List ℕ) (k d : ℕ) → k < length xs → has xs (get_or xs k d) ≡ true
has_at [] k d l = absurd (omega (arith, l))
has_at (x ∷ xs) zero d l = or_left (x == x) _ (eq-eqb x x refl)
has_at (x ∷ xs) (suc k) d l = or_right _ _ (has_at xs k d (omega (arith, l)))

-- and each number of the list is at a place
pub has_index : (xs : List ℕ) (x d : ℕ) → has xs x ≡ true → (k : ℕ) × (k < length xs) × (get_or xs k d ≡ x)
has_index [] x d h = absurd (false≢true h)
has_index (y ∷ ys) x d h = ⊎_elim
    (λ e. (0, omega arith, eqb-true y x e))
    (λ r. let w = has_index ys x d r in let l = w.1 in (suc w.0, omega (arith, l), w.2))
    (or_cases (y == x) _ h)

-- what is true of each element
pub all_from : (P : ℕ → Type 0) (xs : List ℕ) → ((y : ℕ) → has xs y ≡ true → P y) → All P xs
all_from P xs h = λ k d l. h (get_or xs k d) (has_at xs k d l)

-- a relation between each element of a list and each later one
module _ (R : ℕ → ℕ → Type 0) where
  -- the pairs without the first element
  pub pairs_tail : (x : ℕ) (xs : List ℕ) → AllPairs R (x ∷ xs) → AllPairs R xs
  pairs_tail x xs p = λ i j d l m. p (suc i) (suc j) d (omega (arith, l)) (omega (arith, m))

  -- the first element stands to each later one
  pub pairs_head : (x : ℕ) (xs : List ℕ) (y : ℕ) → AllPairs R (x ∷ xs) → has xs y ≡ true → R x y
  pairs_head x xs y p h = let c = has_contains xs y h in let l = c.1 in subst (R x) c.2 (p 0 (suc c.0) y (omega arith) (omega (arith, l)))

  -- each element stands to each later one
  pub pairs_cut : (front : List ℕ) (x : ℕ) (rest : List ℕ) (y : ℕ) → AllPairs R (front ++ x ∷ rest) → has rest y ≡ true → R x y
  pairs_cut [] x rest y p h = pairs_head x rest y p h
  pairs_cut (z ∷ front) x rest y p h = pairs_cut front x rest y (pairs_tail z (front ++ x ∷ rest) p) h

  -- each element stands to the one behind it
  pub pairs_before : (front : List ℕ) (x : ℕ) (rest : List ℕ) (y : ℕ) → AllPairs R (front ++ x ∷ rest) → has front y ≡ true → R y x
  pairs_before [] x rest y p h = absurd (false≢true h)
  pairs_before (z ∷ front) x rest y p h = ⊎_elim
      (λ e. subst (λ k. R k x) (eqb-true z y e) (pairs_head z (front ++ x ∷ rest) x p (any_there (λ k. k == x) front x rest (eq-eqb x x refl))))
      (λ r. pairs_before front x rest y (pairs_tail z (front ++ x ∷ rest) p) r)
      (or_cases (z == y) _ h)

  -- two lists, each element of the one standing to each of the other
  pub pairs_append : (xs ys : List ℕ) → AllPairs R xs → AllPairs R ys → ((x y : ℕ) → has xs x ≡ true → has ys y ≡ true → R x y) → AllPairs R (xs ++ ys)
  pairs_append [] ys p q c = q
  pairs_append (x ∷ xs) ys p q c = AllPairs-cons R x (xs ++ ys)
      (all_from (R x) (xs ++ ys) (λ y h. ⊎_elim (λ t. pairs_head x xs y p t) (λ t. c x y (or_left (x == x) _ (eq-eqb x x refl)) t) (any_cases (λ z. z == y) xs ys h)))
      (pairs_append xs ys (pairs_tail x xs p) q (λ a b h k. c a b (or_right _ _ h) k))

  -- another relation between the same elements
  pub pairs_weaker : (S : ℕ → ℕ → Type 0) (xs : List ℕ) → AllPairs S xs → ((x y : ℕ) → has xs x ≡ true → has xs y ≡ true → S x y → R x y) → AllPairs R xs
  pairs_weaker S [] p w = λ i j d l m. absurd (omega (arith, m))
  pairs_weaker S (x ∷ xs) p w = AllPairs-cons R x xs
      (all_from (R x) xs (λ y h. w x y (or_left (x == x) _ (eq-eqb x x refl)) (or_right _ _ h) (first y h)))
      (pairs_weaker S xs (λ i j d l m. p (suc i) (suc j) d (omega (arith, l)) (omega (arith, m))) (λ a b h k s. w a b (or_right _ _ h) (or_right _ _ k) s)) where
        first : (y : ℕ) → has xs y ≡ true → S x y
        first y h = let c = has_contains xs y h in let l = c.1 in subst (S x) c.2 (p 0 (suc c.0) y (omega arith) (omega (arith, l)))

-- a list has the same numbers turned round
pub has_reverse : (xs : List ℕ) (x : ℕ) → has (reverse xs) x ≡ has xs x
has_reverse [] x = refl
has_reverse (y ∷ ys) x = ap (λ (l : List ℕ). has l x) (reverse-append (y ∷ []) ys) ∙ (any_push (λ z. z == x) (reverse ys) y ∙ (ap (λ b. b || (y == x)) (has_reverse ys x) ∙ turned (has ys x) (y == x))) where
  turned : (a b : Bool) → (a || b) ≡ (b || a)
  turned true true = refl
  turned true false = refl
  turned false true = refl
  turned false false = refl

-- two tests that follow from each other
pub same_test : (a b : Bool) → (a ≡ true → b ≡ true) → (b ≡ true → a ≡ true) → a ≡ b
same_test true b f g = sym (f refl)
same_test false true f g = g refl
same_test false false f g = refl

-- ascending chunks of a ring are no more than the ring has
pub ascending_fit : (ring low : ℕ) (chunks : List ℕ) → AllPairs (λ a b. a < b) chunks → ((x : ℕ) → has chunks x ≡ true → (low ≤ x) × (x < ring)) → low ≤ ring → low + length chunks ≤ ring
ascending_fit ring low [] up there l = omega (arith, l)
ascending_fit ring low (x ∷ xs) up there l =
    let here = there x (or_left (x == x) _ (eq-eqb x x refl)) in
    let a = here.0 in let b = here.1 in
    let rest : x + 1 + length xs ≤ ring = ascending_fit ring (x + 1) xs (pairs_tail (λ a b. a < b) x xs up) (λ y h. let m : x < y = pairs_head (λ a b. a < b) x xs y up h in (omega (arith, m), (there y (or_right _ _ h)).1)) (omega (arith, b)) in
    omega (arith, a, rest)

-- the numbers below a bound ascend
pub below_ascends : (n : ℕ) → AllPairs (λ a b. a < b) (below n)
unfolding below
below_ascends zero = λ i j d l m. absurd (omega (arith, m))
below_ascends (suc n) = all_pairs_push (λ a b. a < b) (below n) n (below_ascends n) (λ k d l. below_has n (get_or (below n) k d) (has_at (below n) k d l))

-- ascending numbers are different
pub ascending_distinct : (xs : List ℕ) → AllPairs (λ a b. a < b) xs → are_distinct xs ≡ true
ascending_distinct [] p = refl
ascending_distinct (x ∷ xs) p = and_from _ _
    (not_from_false _ (false_from_ne_true _ (λ h. let l : x < x = pairs_head (λ a b. a < b) x xs x p h in omega (arith, l))))
    (ascending_distinct xs (pairs_tail (λ a b. a < b) x xs p))

-- tests that agree on a list keep the same of it
pub filter_on : (p q : ℕ → Bool) (xs : List ℕ) → ((x : ℕ) → has xs x ≡ true → p x ≡ q x) → filter p xs ≡ filter q xs
filter_on p q [] e = refl
filter_on p q (x ∷ xs) e =
    ap (λ b. cond b (x ∷ filter p xs) (filter p xs)) (e x (or_left (x == x) _ (eq-eqb x x refl)))
    ∙ ap (λ (l : List ℕ). cond (q x) (x ∷ l) l) (filter_on p q xs (λ y h. e y (or_right _ _ h)))

-- the list that one more number passes has it in its place
pub record Splits (p q : ℕ → Bool) (c : ℕ) (xs : List ℕ) : Type 0 where
  pub before : List ℕ
  pub after : List ℕ
  pub without : filter p xs ≡ before ++ after
  pub with_it : filter q xs ≡ before ++ c ∷ after

pub splits : (p q : ℕ → Bool) (c : ℕ) (xs : List ℕ) → ((x : ℕ) → q x ≡ (p x || (c == x))) → AllPairs (λ a b. a < b) xs → has xs c ≡ true → p c ≡ false → Splits p q c xs
splits p q c xs agree up h new =
    let f = any_finds (λ y. y == c) xs h in
    let e : f.1 ≡ c = eqb-true f.1 c f.4 in
    let u : List ℕ = f.0 in
    let v : List ℕ = f.2 in
    let cut : xs ≡ u ++ c ∷ v = f.3 ∙ ap (λ k. u ++ k ∷ v) e in
    let pairs : AllPairs (λ a b. a < b) (u ++ c ∷ v) = subst (AllPairs (λ a b. a < b)) cut up in
    let not_u : (x : ℕ) → has u x ≡ true → q x ≡ p x = λ x k. agree x ∙ (ap (λ b. p x || b) (ne_eqb c x (λ g. let l : x < c = pairs_before (λ a b. a < b) u c v x pairs k in omega (arith, g, l))) ∙ or_no (p x)) in
    let not_v : (x : ℕ) → has v x ≡ true → q x ≡ p x = λ x k. agree x ∙ (ap (λ b. p x || b) (ne_eqb c x (λ g. let l : c < x = pairs_cut (λ a b. a < b) u c v x pairs k in omega (arith, g, l))) ∙ or_no (p x)) in
    record {
      before = filter p u;
      after = filter p v;
      without = ap (filter p) cut ∙ (filter-append p u (c ∷ v) ∙ ap (λ (l : List ℕ). filter p u ++ l) (cond-false (p c) (c ∷ filter p v) (filter p v) new));
      with_it = ap (filter q) cut ∙ (filter-append q u (c ∷ v) ∙ (ap (λ (l : List ℕ). l ++ filter q (c ∷ v)) (filter_on q p u not_u) ∙ ap (λ (l : List ℕ). filter p u ++ l) (cond-true (q c) (c ∷ filter q v) (filter q v) (agree c ∙ or_yes (p c) (c == c) (eq-eqb c c refl)) ∙ ap (λ (l : List ℕ). c ∷ l) (filter_on q p v not_v))));
    } where
      or_no : (b : Bool) → (b || false) ≡ b
      or_no true = refl
      or_no false = refl

      or_yes : (a b : Bool) → b ≡ true → (a || b) ≡ true
      or_yes a b h = or_right a b h

-- nothing comes of a false
pub or_no : (a : Bool) → (a || false) ≡ a
or_no true = refl
or_no false = refl

-- a true is enough
or_yes : (a : Bool) → (a || true) ≡ true
or_yes true = refl
or_yes false = refl

-- the number neither passes nor is this one
abbrev pub unless : (ℕ → Bool) → ℕ → ℕ → Bool
unless g c x = not (g x || (c == x))

-- the number does not pass
abbrev pub lacks : (ℕ → Bool) → ℕ → Bool
lacks g x = not (g x)

-- a number that the list lacks changes no count
same_count : (g : ℕ → Bool) (c : ℕ) (xs : List ℕ) → has xs c ≡ false → count_by (unless g c) xs ≡ count_by (lacks g) xs
same_count g c [] h = refl
same_count g c (x ∷ xs) h =
    let p = or_parts (x == c) _ h in
    let n : c == x ≡ false = ne_eqb c x (λ e. both_ways _ p.0 (eq-eqb x c (sym e))) in
    count_cons (unless g c) x xs ∙ (ap (λ b. cond (not (g x || b)) 1 0 + count_by (unless g c) xs) n ∙ (ap (λ b. cond (not b) 1 0 + count_by (unless g c) xs) (or_no (g x)) ∙ (ap (λ k. cond (not (g x)) 1 0 + k) (same_count g c xs p.1) ∙ sym (count_cons (lacks g) x xs))))

-- one that was lacking is there: one less
pub one_less : (g : ℕ → Bool) (c : ℕ) (xs : List ℕ) → are_distinct xs ≡ true → has xs c ≡ true → g c ≡ false → count_by (unless g c) xs + 1 ≡ count_by (lacks g) xs
one_less g c [] d h f = absurd (false≢true h)
one_less g c (x ∷ xs) d h f =
    let dd = and_parts (not (has xs x)) _ d in
    let a : count_by (unless g c) (x ∷ xs) ≡ cond (unless g c x) 1 0 + count_by (unless g c) xs = count_cons (unless g c) x xs in
    let b : count_by (lacks g) (x ∷ xs) ≡ cond (lacks g x) 1 0 + count_by (lacks g) xs = count_cons (lacks g) x xs in
    ⊎_elim
    (λ e. let s : count_by (unless g c) xs ≡ count_by (lacks g) xs = same_count g c xs (subst (λ z. has xs z ≡ false) e (not-true _ dd.0)) in
    let u : weight (unless g c x) ≡ 0 = ap (λ z. weight (not (g x || z))) (eq-eqb c x (sym e)) ∙ ap (λ z. weight (not z)) (or_yes (g x)) in
    let v : weight (lacks g x) ≡ 1 = ap (λ z. weight (not z)) (subst (λ z. g z ≡ false) (sym e) f) in
    omega (arith, a, b, s, u, v))
    (λ ne. let r : has xs c ≡ true = ⊎_elim (λ t. absurd (ne (eqb-true x c t))) (λ t. t) (or_cases (x == c) _ h) in
    let i : count_by (unless g c) xs + 1 ≡ count_by (lacks g) xs = one_less g c xs dd.1 r f in
    let u : weight (unless g c x) ≡ weight (lacks g x) = ap (λ z. weight (not (g x || z))) (ne_eqb c x (λ e. ne (sym e))) ∙ ap (λ z. weight (not z)) (or_no (g x)) in
    omega (arith, a, b, i, u))
    (cases_eq x c)
