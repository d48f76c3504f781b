-- What a store represents: a partition of the sky and the rows of a catalogue.
use Rattle.table_rules.specs.Objects.{Catalogue}
use Rattle.sky_rules.specs.Partition.{Partition}

-- A survey: the partition of its sky, and its catalogue.
pub record Survey : Type 0 where
  pub plan : Partition
  pub rows : Catalogue
