-- Rows as columns under names, and in the order of their ids.
use Rattle.std.specs.Prelude.{◌≡◌, ℕ, ◌+◌, ◌<◌, ◌≤◌, ◌≤ℤ◌, ◌<ℤ◌, AllPairs, List, [], length, map, get_or, All, Option, ℤ, pos}
use Rattle.std.specs.List.{range_with_len}
use Rattle.std.specs.List.Sorted.{IsPermutation}
use Rattle.table_rules.specs.Objects.{Obj, Catalogue, IsRow, cell}
use Rattle.table_rules.specs.declared.limits.TheConstants.{FURTHER_COLUMNS_MOST, ROWS_MOST}
use Rattle.column_lists.specs.Columns.{Parts, AreRows}

-- the values that rows have in a column
abbrev pub column_in : List Obj → ℕ → List (Option ℤ)
column_in objects col = map (λ o. cell o col) objects

-- a placeholder for an index out of range
abbrev pub no_row : Obj
no_row = record { id = pos 0; at = record { x = pos 0; y = pos 0; z = pos 0 }; further = [] }

-- the objects with these numbers
abbrev pub objects_at : List Obj → List ℕ → List Obj
objects_at objects places = map (λ place. get_or objects place no_row) places

-- Columns under these names.
pub record AreColumns (names : List (List ℕ)) (p : Parts) : Type 0 where
  pub few_names : length names ≤ FURTHER_COLUMNS_MOST
  pub few : length p.ids ≤ ROWS_MOST
  pub wide : length p.further ≡ length names
  pub rows : AreRows p

-- Rows in any order: not too many, each within the limits of its columns and with a value or NULL for each extra
-- column.
pub record AreListed (c : Catalogue) : Type 0 where
  pub few_names : length c.names ≤ FURTHER_COLUMNS_MOST
  pub few : length c.objects ≤ ROWS_MOST
  pub wide : All (λ o. length o.further ≡ length c.names) c.objects
  pub rows : All IsRow c.objects

-- the ids ascend strictly
abbrev pub AreAscending : List ℤ → Type 0
AreAscending ids = AllPairs (λ a b. a <ℤ b) ids

-- Row numbers in the order of their ids: each row number once, and no id above the next one.
pub record ArePlacesById (ids : List ℤ) (places : List ℕ) : Type 0 where
  pub each : IsPermutation (range_with_len 0 (length ids)) places
  pub order : (k : ℕ) → k + 1 < length places → get_or ids (get_or places k 0) (pos 0) ≤ℤ get_or ids (get_or places (k + 1) 0) (pos 0)
