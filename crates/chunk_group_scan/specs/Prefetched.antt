-- The values of the first key column.
use Rattle.std.specs.Prelude.{◌≡◌, ℕ, ◌<◌, ℤ, List, [], ◌∷◌, get_or, length, map, None, Option}
use Rattle.table_rules.specs.Objects.{Obj}
use Rattle.sql_bound.specs.declared.expr.BoundCol.{BoundCol}
use Rattle.value_rules.specs.Values.{cell_of, row}

-- the values of some rows in the first of these columns; if there is no column, there are none
abbrev pub first_keys : List BoundCol → List Obj → List (Option ℤ)
first_keys [] objects = []
first_keys (k ∷ keys) objects = map (λ o. cell_of (row o) k) objects

-- each value in the list is the value at the same position among these values; the list may be shorter
abbrev pub IsPrefetched : List BoundCol → List Obj → List (Option ℤ) → Type 0
IsPrefetched keys objects copied = (j : ℕ) → j < length copied → get_or copied j None ≡ get_or (first_keys keys objects) j None
