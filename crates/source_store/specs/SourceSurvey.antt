-- What a store of sources represents.
use Rattle.std.specs.Prelude.{List}
use Rattle.sky_rules.specs.Partition.{Partition}
use Rattle.table_rules.specs.Objects.{Obj}
use Rattle.source_rules.specs.Sources.{SourceTable}

-- The partition of the sky, the rows of the object table, and the source table.
pub record SourceSurvey : Type 0 where
  pub plan : Partition
  pub objects : List Obj
  pub table : SourceTable
