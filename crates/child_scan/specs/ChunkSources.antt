-- The columns of a chunk's sources.
use Rattle.std.specs.Prelude.{ℕ, List}
use Rattle.source_row.specs.SourceColumns.{AreSourceColumns, SourceParts}

-- Columns of sources within the limits, whatever the names of the extra columns are.
pub record AreChunkSources (p : SourceParts) : Type 0 where
  pub names : List (List ℕ)
  pub are : AreSourceColumns names p
