-- The object table: a flat list of rows, each with an id, a position and extra values.
use Rattle.std.specs.Prelude.{◌≡◌, ℕ, ◌-◌, ◌≤◌, Bool, true, ◌&&◌, List, length, All, AllPairs}
use Rattle.std.specs.Prelude.{Option, None, Some, unwrap_or, slice_get, if◌then◌else◌, nat_le, ◌==◌}
use Rattle.std.specs.Prelude.{ℤ, pos, neg_ℤ, int_le, ◌≤ℤ◌, ◌<ℤ◌, IsTrue}
use Rattle.std.specs.List.{list_all}
use Rattle.sky_vector.specs.Points.{Point, is_admissible}
use Rattle.sky_vector.specs.declared.limits.TheConstants.{COORDINATE_MOST}
use Rattle.table_rules.specs.declared.limits.TheConstants.{FIRST_COLUMNS, FURTHER_COLUMNS_MOST, FURTHER_MOST}
use Rattle.table_rules.specs.declared.limits.TheConstants.{ID_MOST, ROWS_MOST}
use Rattle.table_rules.specs.IdOrder.{IsInOrder}

-- A row: its id, its position, and its extra values, of which None is NULL.
pub record Obj : Type 0 where
  pub id : ℤ
  pub at : Point
  pub further : List (Option ℤ)

-- A catalogue: the names of the extra columns, and the rows.
pub record Catalogue : Type 0 where
  pub names : List (List ℕ)
  pub objects : List Obj

-- the value in a column: objectId, x, y and z are the columns 0 to 3, and None is NULL
abbrev pub cell : Obj → ℕ → Option ℤ
cell o col =
    if col == 0 then Some o.id
    else if col == 1 then Some o.at.x
    else if col == 2 then Some o.at.y
    else if col == 3 then Some o.at.z
    else unwrap_or (slice_get o.further (col - FIRST_COLUMNS)) None

-- the largest size of a value in a column
abbrev pub column_bound : ℕ → ℤ
column_bound col =
    if col == 0 then pos ID_MOST
    else if nat_le col 3 then pos COORDINATE_MOST
    else pos FURTHER_MOST

-- an extra value is NULL or no larger than the bound
abbrev pub is_further : Option ℤ → Bool
is_further None = true
is_further (Some z) = int_le (neg_ℤ (pos FURTHER_MOST)) z && int_le z (pos FURTHER_MOST)

-- A row within the limits of its columns.
pub record IsRow (o : Obj) : Type 0 where
  pub id : pos 0 ≤ℤ o.id
  pub most : o.id ≤ℤ pos ID_MOST
  pub at : IsTrue (is_admissible o.at)
  pub further : IsTrue (list_all is_further o.further)
  pub few : length o.further ≤ FURTHER_COLUMNS_MOST

-- the ids ascend strictly, so no two rows have the same id
abbrev pub IdsAscend : List Obj → Type 0
IdsAscend objects = AllPairs (λ a b. a.id <ℤ b.id) objects

-- Rows that are a table: not too many, in strictly ascending order of id, each within the limits of its columns and
-- with a value for each extra column.
pub record IsCatalogue (c : Catalogue) : Type 0 where
  pub few_names : length c.names ≤ FURTHER_COLUMNS_MOST
  pub few : length c.objects ≤ ROWS_MOST
  pub ascend : IdsAscend c.objects
  pub wide : All (λ o. length o.further ≡ length c.names) c.objects
  pub rows : All IsRow c.objects

-- the table of these rows: the same rows in strictly ascending order of id; if an id repeats, there is none
abbrev pub IsTable : (rows table : List Obj) → Type 0
IsTable rows table = IsInOrder (λ o. o.id) rows table
