-- The source table: a flat list of measurements, each with an id, the id of the measured object and extra values.
use Rattle.std.specs.Prelude.{◌≡◌, ℕ, ◌-◌, ◌≤◌, ◌==◌, List, length, All, AllPairs}
use Rattle.std.specs.Prelude.{Option, None, Some, unwrap_or, slice_get, if◌then◌else◌, nat_le}
use Rattle.std.specs.Prelude.{ℤ, pos, ◌≤ℤ◌, ◌<ℤ◌, IsTrue}
use Rattle.std.specs.List.{list_all}
use Rattle.table_rules.specs.Objects.{is_further}
use Rattle.table_rules.specs.declared.limits.TheConstants.{FURTHER_COLUMNS_MOST, FURTHER_MOST, ID_MOST, ROWS_MOST}
use Rattle.source_rules.specs.declared.limits.TheConstants.{SOURCE_FIRST_COLUMNS}

-- A source: its id, the id of its object, and its extra values, of which None is NULL.
pub record Source : Type 0 where
  pub id : ℤ
  pub object : ℤ
  pub further : List (Option ℤ)

-- A source table: the names of the extra columns, and the sources.
pub record SourceTable : Type 0 where
  pub names : List (List ℕ)
  pub sources : List Source

-- the value in a column: sourceId and objectId are the columns 0 and 1, and None is NULL
abbrev pub source_cell : Source → ℕ → Option ℤ
source_cell s col =
    if col == 0 then Some s.id
    else if col == 1 then Some s.object
    else unwrap_or (slice_get s.further (col - SOURCE_FIRST_COLUMNS)) None

-- the largest size of a value in a column
abbrev pub source_bound : ℕ → ℤ
source_bound col = if nat_le col 1 then pos ID_MOST else pos FURTHER_MOST

-- A source within the limits of its columns.
pub record IsSource (s : Source) : Type 0 where
  pub id : pos 0 ≤ℤ s.id
  pub most : s.id ≤ℤ pos ID_MOST
  pub object : pos 0 ≤ℤ s.object
  pub object_most : s.object ≤ℤ pos ID_MOST
  pub further : IsTrue (list_all is_further s.further)
  pub few : length s.further ≤ FURTHER_COLUMNS_MOST

-- Sources that are a table: not too many, in strictly ascending order of id, each within the limits of its columns and
-- with a value or NULL for each extra column.
pub record IsSourceTable (t : SourceTable) : Type 0 where
  pub few_names : length t.names ≤ FURTHER_COLUMNS_MOST
  pub few : length t.sources ≤ ROWS_MOST
  pub ascend : AllPairs (λ a b. a.id <ℤ b.id) t.sources
  pub wide : All (λ s. length s.further ≡ length t.names) t.sources
  pub rows : All IsSource t.sources
