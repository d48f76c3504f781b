-- The meaning of an index of ids. The idea is Qserv's (SC 2011).
use Rattle.std.specs.Prelude.{◌≡◌, ℕ, ◌<◌, ℤ, List, Some, slice_get, IsTrue}
use Rattle.sky_rules.specs.Partition.{Partition, chunk_count}
use Rattle.sky_rules.specs.Bounds.{in_chunk}
use Rattle.table_rules.specs.Objects.{Obj}
use Rattle.sky_plan.specs.Places.{IsOnlyChunk}

-- What an index is defined over: the partition of the sky, and the rows of a table.
pub record Indexed : Type 0 where
  pub plan : Partition
  pub rows : List Obj

-- The row with this number, from 0, is this one, which has the id, and no other row has it.
pub record IsRowOf (rows : List Obj) (id : ℤ) (row : ℕ) (object : Obj) : Type 0 where
  pub at : slice_get rows row ≡ Some object
  pub has : object.id ≡ id
  pub alone : (i : ℕ) (o : Obj) → slice_get rows i ≡ Some o → o.id ≡ id → i ≡ row

-- The location of an id: the number of the one row that has it, and the one chunk that contains that row's position.
pub record IsPlaceOf (g : Partition) (rows : List Obj) (id : ℤ) (chunk row : ℕ) : Type 0 where
  pub object : Obj
  pub is : IsRowOf rows id row object
  pub there : chunk < chunk_count g
  pub holds : IsTrue (in_chunk g chunk object.at)
  pub only : IsOnlyChunk g chunk object.at
