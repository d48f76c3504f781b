-- Taking rows at the places of those that pass a test is filtering by the test.
use Rattle.std.proofs.Common.{◌≡◌, ℕ, zero, suc, ◌+◌, Bool, true, false, cond, List, [], ◌∷◌, ◌++◌, length, filter, Option, Some, None, option_to_list, slice_get, refl, ap, subst, ◌∙◌, arith}
use Rattle.std.specs.List.{flat_map, range_with_len}
use Rattle.table_rules.specs.Objects.{Obj}
use Rattle.chunk_rules.specs.Places.{passes, RowsAtPlaces}

-- the rows of these numbers by a table's places
abbrev taken : (ℕ → Option Obj) → List ℕ → List Obj
taken at places = flat_map (λ i. option_to_list (at i)) places

-- the numbers of a range at which a row passes
abbrev passing : (Obj → Bool) → (ℕ → Option Obj) → ℕ → ℕ → List ℕ
passing test at a n = filter (λ i. passes test (at i)) (range_with_len a n)

first_taken : (test : Obj → Bool) (at : ℕ → Option Obj) (a : ℕ) (o : Obj) (rest : List ℕ) (objects : List Obj) (b : Bool) → at a ≡ Some o
    → taken at rest ≡ filter test objects → taken at (cond b (a ∷ rest) rest) ≡ cond b (o ∷ filter test objects) (filter test objects)
first_taken test at a o rest objects true e h = ap (λ x. option_to_list x ++ taken at rest) e ∙ ap (λ l. o ∷ l) h
first_taken test at a o rest objects false e h = h

-- from a place on, where the numbers from there name these rows
taken_from : (test : Obj → Bool) (at : ℕ → Option Obj) (a : ℕ) (objects : List Obj) → ((i : ℕ) → at (a + i) ≡ slice_get objects i)
    → taken at (passing test at a (length objects)) ≡ filter test objects
taken_from test at a [] h = refl
taken_from test at a (o ∷ objects) h =
    let here : at a ≡ Some o = subst (λ n. at n ≡ Some o) (omega arith) (h 0) in
    let later : (i : ℕ) → at ((a + 1) + i) ≡ slice_get objects i = λ i. subst (λ n. at n ≡ slice_get objects i) (omega arith) (h (suc i)) in
    let rest : List ℕ = passing test at (a + 1) (length objects) in
    ap (λ b. taken at (cond b (a ∷ rest) rest)) (ap (passes test) here)
    ∙ first_taken test at a o rest objects (test o) here (taken_from test at (a + 1) objects later)

pub rows_at_places : RowsAtPlaces
rows_at_places test objects = taken_from test (λ i. slice_get objects i) 0 objects (λ i. ap (λ n. slice_get objects n) (omega arith))
