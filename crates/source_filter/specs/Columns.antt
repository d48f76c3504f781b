-- The columns of a source.
use Rattle.std.specs.Prelude.{◌≡◌, ℕ, ◌+◌, ◌<◌, ℤ, pos, [], get_or, Option, None, Some}
use Rattle.sql_bound.specs.declared.expr.BoundCol.{BoundCol}
use Rattle.source_row.specs.SourceColumns.{SourceParts}
use Rattle.child_rules.specs.Columns.{source_col}
use Rattle.source_filter.specs.declared.source_column.SourceColumn.{SourceColumn}
use Rattle.source_filter.specs.declared.source_column.SourceColumn.TheVariants.{Id, Object, Further}

-- the column's number in the source table
abbrev pub number_of : SourceColumn → ℕ
number_of Id = 0
number_of Object = 1
number_of (Further k) = k + 2

-- the column is among these extra ones, if it is an extra one
abbrev pub IsThere : ℕ → SourceColumn → Type 0
IsThere width Id = Unit {0}
IsThere width Object = Unit {0}
IsThere width (Further k) = k < width

-- A column of a pair that is this column of its source, which has the given number of extra columns.
pub record IsColumnOf (width : ℕ) (found : SourceColumn) (col : BoundCol) : Type 0 where
  pub is : col ≡ source_col (number_of found)
  pub there : IsThere width found

-- the value of the source with number i in the column
abbrev pub value_in : SourceParts → SourceColumn → ℕ → Option ℤ
value_in p Id i = Some (get_or p.ids i (pos 0))
value_in p Object i = Some (get_or p.objects i (pos 0))
value_in p (Further k) i = get_or (get_or p.further k []) i None
