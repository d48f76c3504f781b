-- The sources that are read so far.
use Rattle.std.specs.Prelude.{ℕ, List}
use Rattle.source_row.specs.SourceColumns.{SourceParts}

-- The names of the extra columns, and the columns.
pub record GatheredSources : Type 0 where
  pub names : List (List ℕ)
  pub parts : SourceParts
