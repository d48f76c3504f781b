-- Rows of any kind in ascending order of id, given the id of a row.
use Rattle.std.specs.Prelude.{ℤ, Bool, List, [], ◌∷◌, map, if◌then◌else◌, int_lt, ◌<ℤ◌, AllPairs}
use Rattle.std.specs.List.{IsDistinct, list_any}
use Rattle.std.specs.List.Sorted.{IsPermutation}
use Rattle.std.specs.Ordering.{int_eq}

-- rows in ascending order of id with one row more, which is inserted before the first of a greater id
abbrev pub with_one : {R : Type 0} → (R → ℤ) → R → List R → List R
with_one {R} id_of r [] = r ∷ []
with_one {R} id_of r (first ∷ rest) =
    if int_lt (id_of r) (id_of first) then r ∷ first ∷ rest else first ∷ with_one id_of r rest

-- these rows in ascending order of id
abbrev pub in_id_order : {R : Type 0} → (R → ℤ) → List R → List R
in_id_order {R} id_of [] = []
in_id_order {R} id_of (r ∷ rest) = with_one id_of r (in_id_order id_of rest)

-- one of the rows has the id
abbrev pub has_this_id : {R : Type 0} → (R → ℤ) → List R → ℤ → Bool
has_this_id id_of rows id = list_any (int_eq id) (map id_of rows)

-- no two of the rows have the same id
abbrev pub HaveDistinctIds : {R : Type 0} → (R → ℤ) → List R → Type 0
HaveDistinctIds id_of rows = IsDistinct int_eq (map id_of rows)

-- A table has the same rows, and their ids ascend strictly. Rows of which two have one id have no such table.
pub record IsInOrder {R : Type 0} (id_of : R → ℤ) (rows table : List R) : Type 0 where
  pub same : IsPermutation rows table
  pub ascend : AllPairs (λ a b. id_of a <ℤ id_of b) table
