-- The values of a key as one list.
use Rattle.std.specs.Prelude.{ℤ, List, Option}
use Rattle.group_key.specs.declared.short_key.Cells.{Cells}
use Rattle.group_key.specs.declared.short_key.Cells.TheVariants as cells

-- the values of an open key, in their order
abbrev pub open_values : Cells → List (Option ℤ)
open_values (cells.Few k) = k
open_values (cells.Many values) = values.now
