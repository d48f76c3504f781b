-- The values of rows by their source: a column vector, or a column of the block.
use Rattle.std.specs.Prelude.{ℤ, List, map, Option, Some}
use Rattle.column_vectors.specs.Lanes.{IsSmall, numbers_of, values_in}
use Rattle.column_vectors.specs.declared.value_list.Source.{Source}
use Rattle.column_vectors.specs.declared.value_list.Source.TheVariants.{Lane, Column}

-- the values: those of a column vector at its valid rows, or all numbers of a column at selected rows
abbrev pub values_of : Source → List (Option ℤ)
values_of (Lane lane) = values_in (numbers_of lane.numbers) lane.known.items
values_of (Column numbers) = map Some numbers

-- a column vector is within its bound; for a column at selected rows nothing is required
abbrev pub IsWithinBound : Source → Type 0
IsWithinBound (Lane lane) = IsSmall lane
IsWithinBound (Column numbers) = Unit {0}
