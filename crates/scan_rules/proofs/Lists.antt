-- Tests, counts and joined lists, in general.
use Rattle.std.proofs.Common.{◌≡◌, ℕ, ◌+◌, ◌<◌, ◌≤◌, List, [], ◌∷◌, ◌++◌, Bool, true, false, not, ◌&&◌, ◌||◌, cond, Option, Some, zero, suc, ◌⊎◌, ⊎_elim, refl, sym, ◌∙◌, ap, subst, arith, append-nil, append_assoc, count_by, flat_map, inl, inr, ◌*◌}
use Rattle.std.specs.List.{list_any, last_or}
use Rattle.std.proofs.lemmas.Bool.{and_parts, or_cases, or_parts, cases_eq, or_left, or_right, false_from_ne_true, false≢true, both_ways, not-true, cond-true}
use Rattle.std.proofs.lemmas.List.Sums.{sum_by-cons, sum_by-append, sum_by_push}

-- or may be grouped either way
pub or_assoc : (a b c : Bool) → ((a || b) || c) ≡ (a || (b || c))
or_assoc true b c = refl
or_assoc false b c = refl

-- an element of both lists together passes where one of either does
pub any_append : {X : Type 0} (p : X → Bool) (xs ys : List X) → list_any p (xs ++ ys) ≡ (list_any p xs || list_any p ys)
any_append p [] ys = refl
any_append p (x ∷ xs) ys = ap (λ b. p x || b) (any_append p xs ys) ∙ sym (or_assoc (p x) _ _)

-- nothing comes of a false
or_false : (b : Bool) → (b || false) ≡ b
or_false true = refl
or_false false = refl

-- one more element
pub any_push : {X : Type 0} (p : X → Bool) (xs : List X) (x : X) → list_any p (xs ++ x ∷ []) ≡ (list_any p xs || p x)
any_push p xs x = any_append p xs (x ∷ []) ∙ ap (λ b. list_any p xs || b) (or_false (p x))

-- an element that passes stays, whatever follows
pub any_stays : {X : Type 0} (p : X → Bool) (xs ys : List X) → list_any p xs ≡ true → list_any p (xs ++ ys) ≡ true
any_stays p xs ys h = any_append p xs ys ∙ or_left (list_any p xs) (list_any p ys) h

-- whatever stands before it
pub any_later : {X : Type 0} (p : X → Bool) (xs ys : List X) → list_any p ys ≡ true → list_any p (xs ++ ys) ≡ true
any_later p xs ys h = any_append p xs ys ∙ or_right (list_any p xs) (list_any p ys) h

-- it is of the first list or of the second
pub any_cases : {X : Type 0} (p : X → Bool) (xs ys : List X) → list_any p (xs ++ ys) ≡ true → (list_any p xs ≡ true) ⊎ (list_any p ys ≡ true)
any_cases p xs ys h = or_cases _ _ (sym (any_append p xs ys) ∙ h)

-- where none passes, none of a front does
pub any_front : {X : Type 0} (p : X → Bool) (xs ys : List X) → list_any p (xs ++ ys) ≡ false → list_any p xs ≡ false
any_front p xs ys h = (or_parts _ _ (sym (any_append p xs ys) ∙ h)).0

-- an element that does not pass changes nothing
pub any_none : {X : Type 0} (p : X → Bool) (xs : List X) (x : X) → p x ≡ false → list_any p (xs ++ x ∷ []) ≡ list_any p xs
any_none p xs x h = any_push p xs x ∙ (ap (λ b. list_any p xs || b) h ∙ or_false _)

-- a test of which another follows
pub any_weaker : {X : Type 0} (p q : X → Bool) → ((x : X) → p x ≡ true → q x ≡ true) → (xs : List X) → list_any p xs ≡ true → list_any q xs ≡ true
any_weaker p q w [] h = h
any_weaker p q w (x ∷ xs) h = ⊎_elim (λ t. or_left (q x) _ (w x t)) (λ t. or_right (q x) _ (any_weaker p q w xs t)) (or_cases (p x) _ h)

-- where some element passes, the list is cut at one
pub any_finds : {X : Type 0} (p : X → Bool) (xs : List X) → list_any p xs ≡ true → (before : List X) × (x : X) × (rest : List X) × (xs ≡ before ++ x ∷ rest) × (p x ≡ true)
any_finds p [] h = absurd (false≢true h)
any_finds {X} p (x ∷ xs) h = ⊎_elim
    (λ t. ([], x, xs, refl, t))
    (λ t. let f = any_finds p xs t in (x ∷ f.0, f.1, f.2, ap (λ (l : List X). x ∷ l) f.3, f.4))
    (or_cases (p x) _ h)

-- the element at a cut passes
pub any_there : {X : Type 0} (p : X → Bool) (before : List X) (x : X) (rest : List X) → p x ≡ true → list_any p (before ++ x ∷ rest) ≡ true
any_there p before x rest h = any_later p before (x ∷ rest) (or_left (p x) _ h)

-- tests that agree
pub any_agree : {X : Type 0} (p q : X → Bool) → ((x : X) → p x ≡ q x) → (xs : List X) → list_any p xs ≡ list_any q xs
any_agree p q e [] = refl
any_agree p q e (x ∷ xs) = ap (λ b. b || list_any p xs) (e x) ∙ ap (λ b. q x || b) (any_agree p q e xs)

-- four tests, taken by pairs either way
or_four : (a b c d : Bool) → ((a || b) || (c || d)) ≡ ((a || c) || (b || d))
or_four true b c d = refl
or_four false true true d = refl
or_four false true false d = refl
or_four false false c d = refl

-- a test of two parts
pub any_or : {X : Type 0} (p q : X → Bool) (xs : List X) → list_any (λ x. p x || q x) xs ≡ (list_any p xs || list_any q xs)
any_or p q [] = refl
any_or p q (x ∷ xs) = ap (λ b. (p x || q x) || b) (any_or p q xs) ∙ or_four (p x) (q x) (list_any p xs) (list_any q xs)

-- what one element adds to a count
abbrev pub weight : Bool → ℕ
weight b = cond b 1 0

-- a count with one more element at the end
pub count_push : {X : Type 0} (p : X → Bool) (xs : List X) (x : X) → count_by p (xs ++ x ∷ []) ≡ count_by p xs + cond (p x) 1 0
count_push p xs x = sum_by_push (λ y. cond (p y) 1 0) xs x

-- a count of joined lists
pub count_append : {X : Type 0} (p : X → Bool) (xs ys : List X) → count_by p (xs ++ ys) ≡ count_by p xs + count_by p ys
count_append p xs ys = sum_by-append (λ y. cond (p y) 1 0) xs ys

-- a count with one more element at the front
pub count_cons : {X : Type 0} (p : X → Bool) (x : X) (xs : List X) → count_by p (x ∷ xs) ≡ cond (p x) 1 0 + count_by p xs
count_cons p x xs = sum_by-cons (λ y. cond (p y) 1 0) x xs

-- where none passes the count is 0
pub none_counted : {X : Type 0} (p : X → Bool) (xs : List X) → list_any p xs ≡ false → count_by p xs ≡ 0
none_counted p [] h = refl
none_counted p (x ∷ xs) h =
    let h0 : p x ≡ false = (or_parts (p x) _ h).0 in
    let i : count_by p xs ≡ 0 = none_counted p xs (or_parts (p x) _ h).1 in
    count_cons p x xs ∙ (ap (λ b. cond b 1 0 + count_by p xs) h0 ∙ omega (arith, i))

-- where some passes it is 1 at least
pub some_counted : {X : Type 0} (p : X → Bool) (xs : List X) → list_any p xs ≡ true → 1 ≤ count_by p xs
some_counted p [] h = absurd (false≢true h)
some_counted p (x ∷ xs) h = ⊎_elim
    (λ t. subst (λ n. 1 ≤ n) (sym (count_cons p x xs ∙ ap (λ b. cond b 1 0 + count_by p xs) t)) (omega arith))
    (λ t. let i : 1 ≤ count_by p xs = some_counted p xs t in subst (λ n. 1 ≤ n) (sym (count_cons p x xs)) (omega (arith, i)))
    (or_cases (p x) _ h)

-- where a count is at most 1, what stands beside an element that passes does not pass
pub alone_passes : {X : Type 0} (p : X → Bool) (before : List X) (x : X) (rest : List X) → p x ≡ true → count_by p (before ++ x ∷ rest) ≤ 1 → (list_any p before ≡ false) × (list_any p rest ≡ false)
alone_passes p before x rest h few =
    let a : count_by p (before ++ x ∷ rest) ≡ count_by p before + count_by p (x ∷ rest) = count_append p before (x ∷ rest) in
    let b : count_by p (x ∷ rest) ≡ weight (p x) + count_by p rest = count_cons p x rest in
    let w : weight (p x) ≡ 1 = cond-true (p x) 1 0 h in (
      false_from_ne_true _ (λ t. let o : 1 ≤ count_by p before = some_counted p before t in absurd (omega (arith, a, b, w, o, few))),
      false_from_ne_true _ (λ t. let o : 1 ≤ count_by p rest = some_counted p rest t in absurd (omega (arith, a, b, w, o, few))),
    )

-- the elements that pass the one test and not the other
abbrev pub less : {X : Type 0} → (X → Bool) → (X → Bool) → X → Bool
less p q x = p x && not (q x)

-- what passes the one passes the other too, or it alone
pub count_split : {X : Type 0} (p q : X → Bool) (xs : List X) → count_by p xs ≤ count_by q xs + count_by (less p q) xs
count_split p q [] = omega arith
count_split p q (x ∷ xs) =
    let i : count_by p xs ≤ count_by q xs + count_by (less p q) xs = count_split p q xs in
    let a : count_by p (x ∷ xs) ≡ weight (p x) + count_by p xs = count_cons p x xs in
    let b : count_by q (x ∷ xs) ≡ weight (q x) + count_by q xs = count_cons q x xs in
    let c : count_by (less p q) (x ∷ xs) ≡ weight (less p q x) + count_by (less p q) xs = count_cons (less p q) x xs in
    let w : weight (p x) ≤ weight (q x) + weight (less p q x) = weighs (p x) (q x) in
    omega (arith, i, a, b, c, w) where
      weighs : (s t : Bool) → weight s ≤ weight t + weight (s && not t)
      weighs true true = omega arith
      weighs true false = omega arith
      weighs false true = omega arith
      weighs false false = omega arith

-- where each element that passes p passes one of n tests, each passed by b at most
pub cover : {X : Type 0} (n b : ℕ) (p : X → Bool) (f : ℕ → X → Bool) (xs : List X) → ((before : List X) (x : X) (rest : List X) → xs ≡ before ++ x ∷ rest → p x ≡ true → (i : ℕ) × (i < n) × (f i x ≡ true)) → ((i : ℕ) → i < n → count_by (f i) xs ≤ b) → count_by p xs ≤ n * b
cover zero b p f xs each few = let e : count_by p xs ≡ 0 = none_counted p xs (false_from_ne_true _ (λ t. let w = any_finds p xs t in let l = (each w.0 w.1 w.2 w.3 w.4) in absurd (omega (arith, l.1)))) in omega (arith, e)
cover (suc n) b p f xs each few =
    let i : count_by (less p (f n)) xs ≤ n * b = cover n b (less p (f n)) f xs
    (λ before x rest e h. let parts = and_parts (p x) (not (f n x)) h in let l = each before x rest e parts.0 in let low = l.1 in
    ⊎_elim (λ q. absurd (both_ways (f n x) (not-true (f n x) parts.1) (subst (λ z. f z x ≡ true) q l.2))) (λ ne. (l.0, omega (arith, low, ne), l.2)) (cases_eq l.0 n))
    (λ j l. few j (omega (arith, l))) in
    let s : count_by p xs ≤ count_by (f n) xs + count_by (less p (f n)) xs = count_split p (f n) xs in
    let m : count_by (f n) xs ≤ b = few n (omega arith) in
    omega (arith, i, s, m)

-- joined lists, element by element
pub flat_append : {X A : Type 0} (f : X → List A) (xs ys : List X) → flat_map f (xs ++ ys) ≡ flat_map f xs ++ flat_map f ys
flat_append f [] ys = refl
flat_append {X} {A} f (x ∷ xs) ys = ap (λ (l : List A). f x ++ l) (flat_append f xs ys) ∙ sym (append_assoc (f x) _ _)

-- one more element
pub flat_push : {X A : Type 0} (f : X → List A) (xs : List X) (x : X) → flat_map f (xs ++ x ∷ []) ≡ flat_map f xs ++ f x
flat_push {X} {A} f xs x = flat_append f xs (x ∷ []) ∙ ap (λ (l : List A). flat_map f xs ++ l) (append-nil (f x))

-- an element that gives nothing
pub flat_none : {X A : Type 0} (f : X → List A) (xs : List X) (x : X) → f x ≡ [] → flat_map f (xs ++ x ∷ []) ≡ flat_map f xs
flat_none {X} {A} f xs x h = flat_push f xs x ∙ (ap (λ (l : List A). flat_map f xs ++ l) h ∙ append-nil _)

-- the last element
pub last_push : {A : Type 0} (o : Option A) (xs : List A) (x : A) → last_or o (xs ++ x ∷ []) ≡ Some x
last_push o [] x = refl
last_push o (y ∷ ys) x = last_push (Some y) ys x

-- a list with one more element is cut at that element, or before it
pub cut_push : {X : Type 0} (xs : List X) (x : X) (before : List X) (y : X) (rest : List X) → xs ++ x ∷ [] ≡ before ++ y ∷ rest
    → ((before ≡ xs) × (y ≡ x) × (rest ≡ [])) ⊎ ((more : List X) × (xs ≡ before ++ y ∷ more) × (rest ≡ more ++ x ∷ []))
cut_push [] x [] y [] e = inl (refl, cc, refl)
cut_push [] x [] y (z ∷ rest) e = absurd (cc)
cut_push [] x (b ∷ []) y rest e = absurd (cc)
cut_push [] x (b ∷ c ∷ before) y rest e = absurd (cc)
cut_push (w ∷ xs) x [] y rest e = inr (xs, cc, cc)
cut_push {X} (w ∷ xs) x (b ∷ before) y rest e =
    let t : xs ++ x ∷ [] ≡ before ++ y ∷ rest = cc in
    let h : w ≡ b = cc in
    ⊎_elim (λ l. inl (cc, l.1, l.2)) (λ r. inr (r.0, let q : xs ≡ before ++ y ∷ r.0 = r.1 in cc, r.2)) (cut_push xs x before y rest t)

-- the empty list has no cut
pub nil_is_no_cut : {X : Type 0} (before : List X) (x : X) (rest : List X) → [] ≡ before ++ x ∷ rest → ⊥
nil_is_no_cut [] x rest e = cc
nil_is_no_cut (b ∷ before) x rest e = cc
