-- Whether an element of a list that is put together passes a test.
use Rattle.std.proofs.Common.{◌≡◌, ◌∙◌, ℕ, ◌+◌, ◌<◌, ◌≤◌, Bool, true, false, List, ◌++◌, map, length, drop, get_or}
use Rattle.std.proofs.Common.{refl}
use Rattle.std.specs.Prelude.{◌||◌}
use Rattle.std.specs.List.{flat_map, list_any}
use Rattle.std.proofs.lemmas.List.{drop_all}
use Rattle.std.proofs.lemmas.List.Folds.{list_any-append}
use Rattle.text_rules.specs.Readings.{joined}
use Rattle.query_walks.proofs.Firsts.{next_of_each, next_part}

-- an element of two lists, one behind the other
pub any_append : {A : Type 0} (test : A → Bool) (xs ys : List A)
    → list_any test (xs ++ ys) ≡ (list_any test xs || list_any test ys)
any_append test xs ys = list_any-append test xs ys

-- where one of the first passes, one of both does
pub any_here : {A : Type 0} (test : A → Bool) (xs ys : List A) → list_any test xs ≡ true
    → list_any test (xs ++ ys) ≡ true
any_here test xs ys h = rw (any_append test xs ys, h) refl

-- where none of the first passes, it is as with the second
pub any_later : {A : Type 0} (test : A → Bool) (xs ys : List A) → list_any test xs ≡ false
    → list_any test (xs ++ ys) ≡ list_any test ys
any_later test xs ys h = rw (any_append test xs ys, h) refl

-- ---- in a loop over the parts

-- one passes, where one does of what the part at the place has
pub each_any_here : {A B : Type 0} (test : B → Bool) (part : A → List B) (xs : List A) (i : ℕ) (x : A) → i < length xs
    → x ≡ get_or xs i x → list_any test (flat_map part xs) ≡ list_any test (flat_map part (drop i xs))
    → list_any test (part x) ≡ true → list_any test (flat_map part xs) ≡ true
each_any_here test part xs i x low is ahead h =
    rw (ahead, next_of_each part xs i x low is) (any_here test (part x) (flat_map part (drop (i + 1) xs)) h)

-- and else it is as with the parts behind it
pub each_any_later : {A B : Type 0} (test : B → Bool) (part : A → List B) (xs : List A) (i : ℕ) (x : A)
    → i < length xs → x ≡ get_or xs i x → list_any test (flat_map part xs) ≡ list_any test (flat_map part (drop i xs))
    → list_any test (part x) ≡ false
    → list_any test (flat_map part xs) ≡ list_any test (flat_map part (drop (i + 1) xs))
each_any_later test part xs i x low is ahead h =
    ahead ∙ rw (next_of_each part xs i x low is) (any_later test (part x) (flat_map part (drop (i + 1) xs)) h)

-- behind the last part none passes
pub each_any_at_end : {A B : Type 0} (test : B → Bool) (part : A → List B) (xs : List A) (i : ℕ) → length xs ≤ i
    → list_any test (flat_map part xs) ≡ list_any test (flat_map part (drop i xs))
    → list_any test (flat_map part xs) ≡ false
each_any_at_end test part xs i far ahead = rw (ahead, drop_all i xs far) refl

-- the same three of parts that are joined
pub joined_any_here : {A B : Type 0} (test : B → Bool) (part : A → List B) (xs : List A) (i : ℕ) (x : A)
    → i < length xs → x ≡ get_or xs i x
    → list_any test (joined (map part xs)) ≡ list_any test (joined (map part (drop i xs)))
    → list_any test (part x) ≡ true → list_any test (joined (map part xs)) ≡ true
joined_any_here test part xs i x low is ahead h =
    rw (ahead, next_part part xs i x low is) (any_here test (part x) (joined (map part (drop (i + 1) xs))) h)

pub joined_any_later : {A B : Type 0} (test : B → Bool) (part : A → List B) (xs : List A) (i : ℕ) (x : A)
    → i < length xs → x ≡ get_or xs i x
    → list_any test (joined (map part xs)) ≡ list_any test (joined (map part (drop i xs)))
    → list_any test (part x) ≡ false
    → list_any test (joined (map part xs)) ≡ list_any test (joined (map part (drop (i + 1) xs)))
joined_any_later test part xs i x low is ahead h =
    ahead ∙ rw (next_part part xs i x low is) (any_later test (part x) (joined (map part (drop (i + 1) xs))) h)

pub joined_any_at_end : {A B : Type 0} (test : B → Bool) (part : A → List B) (xs : List A) (i : ℕ) → length xs ≤ i
    → list_any test (joined (map part xs)) ≡ list_any test (joined (map part (drop i xs)))
    → list_any test (joined (map part xs)) ≡ false
joined_any_at_end test part xs i far ahead = rw (ahead, drop_all i xs far) refl
