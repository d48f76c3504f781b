-- What a session over a child table is run over.
use Rattle.table_rules.specs.Objects.{Catalogue}
use Rattle.sky_rules.specs.Partition.{Partition}
use Rattle.source_rules.specs.Sources.{SourceTable}

-- The plan of a sky, the catalogue of its objects, and the table of their sources.
pub record ChildSurvey : Type 0 where
  pub plan : Partition
  pub rows : Catalogue
  pub table : SourceTable
