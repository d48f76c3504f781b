-- Filters of lists, and of lists that ascend.
use Rattle.std.proofs.Common.{◌≡◌, ℕ, ◌+◌, ◌<◌, ◌==◌, Bool, true, false, cond, ◌&&◌, List, [], ◌∷◌, ◌++◌, filter, length, take, get_or, refl, sym, ap, subst, ◌∙◌, arith, None}
use Rattle.std.specs.Prelude.{AllPairs, All}
use Rattle.std.specs.Option.{IfSome}
use Rattle.std.specs.List.{last_or, list_all}
use Rattle.std.proofs.lemmas.List.{get_or_default, get_or-take, length-take, take_more}
use Rattle.std.proofs.lemmas.List.Elements.{All-filter}
use Rattle.scan_rules.proofs.ChunkSets.{last_below}

twice_step : {X : Type 0} (q : X → Bool) (x : X) (kept rest : List X) (b : Bool) → filter q kept ≡ rest → filter q (cond b (x ∷ kept) kept) ≡ cond (b && q x) (x ∷ rest) rest
twice_step q x kept rest true e = ap (λ l. cond (q x) (x ∷ l) l) e
twice_step q x kept rest false e = e

-- a filter of a filter is one by both tests
pub filter_twice : {X : Type 0} (p q : X → Bool) (xs : List X) → filter q (filter p xs) ≡ filter (λ x. p x && q x) xs
filter_twice p q [] = refl
filter_twice p q (x ∷ xs) = twice_step q x (filter p xs) (filter (λ y. p y && q y) xs) (p x) (filter_twice p q xs)

-- tests that agree keep the same
pub filter_same : {X : Type 0} (p q : X → Bool) (xs : List X) → ((x : X) → p x ≡ q x) → filter p xs ≡ filter q xs
filter_same p q [] h = refl
filter_same p q (x ∷ xs) h = ap (λ b. cond b (x ∷ filter p xs) (filter p xs)) (h x) ∙ ap (λ l. cond (q x) (x ∷ l) l) (filter_same p q xs h)

and_true : (a : Bool) → (a && true) ≡ a
and_true true = refl
and_true false = refl

filter_all : {X : Type 0} (xs : List X) → filter (λ x. true) xs ≡ xs
filter_all [] = refl
filter_all (x ∷ xs) = ap (λ l. x ∷ l) (filter_all xs)

-- nothing is left out by no test
pub without_tests : {A : Type 0} (f : ℕ → A → Bool) (tests : List A) (chunks : List ℕ) → (length tests == 0) ≡ true → chunks ≡ filter (λ c. list_all (f c) tests) chunks
without_tests f [] chunks none = sym (filter_all chunks)
without_tests f (test ∷ tests) chunks none = absurd (grind (arith, none))

-- the first test alone
pub first_test : {A : Type 0} (f : ℕ → A → Bool) (tests : List A) (test : A) (chunks : List ℕ) → 0 < length tests → test ≡ get_or tests 0 test
    → filter (λ c. f c test) chunks ≡ filter (λ c. list_all (f c) (take 1 tests)) chunks
first_test f [] test chunks some is = absurd (omega (arith, some))
first_test f (x ∷ tests) test chunks some is = filter_same (λ c. f c test) (λ c. f c x && true) chunks (λ c. ap (f c) is ∙ sym (and_true (f c x)))

-- in a list that ascends all before a place are below what stands there
below_next : (xs : List ℕ) (i e : ℕ) → AllPairs (λ a b. a < b) xs → i < length xs → All (λ y. y < get_or xs i e) (take i xs)
below_next xs i e up low k d within =
    let before : k < i = omega (arith, within, length-take i xs) in
    let rise : get_or xs k d < get_or xs i d = up k i d (omega (arith, before)) (omega (arith, low)) in
    let there = get_or_default xs i d e low in
    let here = get_or-take i xs k d before in
    omega (arith, rise, there, here)

-- and so is the last of those of them that pass a test
pub kept_above : (p : ℕ → Bool) (xs kept : List ℕ) (i e : ℕ) → kept ≡ filter p (take i xs) → AllPairs (λ a b. a < b) xs → i < length xs
    → IfSome (last_or None kept) (λ last. last < get_or xs i e)
kept_above p xs kept i e is up low =
    subst (λ (l : List ℕ). IfSome (last_or None l) (λ last. last < get_or xs i e)) (sym is)
    (last_below (filter p (take i xs)) (get_or xs i e) (All-filter p (λ y. y < get_or xs i e) (take i xs) (below_next xs i e up low)))

-- what is kept of numbers below a bound is below it
pub kept_below : (p : ℕ → Bool) (xs kept : List ℕ) (n : ℕ) → kept ≡ filter p xs → All (λ c. c < n) xs → All (λ c. c < n) kept
kept_below p xs kept n is below = subst (λ (l : List ℕ). All (λ c. c < n) l) (sym is) (All-filter p (λ c. c < n) xs below)

all_more : {A : Type 0} (p : A → Bool) (xs : List A) (x : A) → list_all p (xs ++ x ∷ []) ≡ (list_all p xs && p x)
all_more p [] x = and_true (p x)
all_more p (y ∷ xs) x = ap (λ l. p y && l) (all_more p xs x) ∙ and_assoc (p y) (list_all p xs) (p x)
  where
    and_assoc : (a b c : Bool) → (a && (b && c)) ≡ ((a && b) && c)
    and_assoc true b c = refl
    and_assoc false b c = refl

-- what passes the tests up to a place, and of that what passes the one there, passes the tests up to the next place
pub one_test_more : {A : Type 0} (f : ℕ → A → Bool) (tests : List A) (i : ℕ) (test : A) (chunks : List ℕ) → i < length tests → test ≡ get_or tests i test
    → filter (λ c. f c test) (filter (λ c. list_all (f c) (take i tests)) chunks) ≡ filter (λ c. list_all (f c) (take (i + 1) tests)) chunks
one_test_more f tests i test chunks low is =
    let more : take (i + 1) tests ≡ take i tests ++ test ∷ [] = take_more tests i test low ∙ ap (λ x. take i tests ++ x ∷ []) (sym is) in
    filter_twice (λ c. list_all (f c) (take i tests)) (λ c. f c test) chunks
    ∙ filter_same (λ c. list_all (f c) (take i tests) && f c test) (λ c. list_all (f c) (take (i + 1) tests)) chunks
    (λ c. sym (ap (list_all (f c)) more ∙ all_more (f c) (take i tests) test))
