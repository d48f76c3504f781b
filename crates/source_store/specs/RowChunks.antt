-- The rows of the object table: their chunks, and ids that are consecutive.
use Rattle.std.specs.Prelude.{◌≡◌, ℕ, ◌<◌, ℤ, pos, ◌+ℤ◌, IsTrue, List, length, get_or}
use Rattle.sky_vector.specs.Points.{Point}
use Rattle.sky_rules.specs.Bounds.{in_chunk}
use Rattle.sky_rules.specs.Partition.{Partition, chunk_count}
use Rattle.sky_plan.specs.Places.{IsOnlyChunk}
use Rattle.sky_row.specs.Columns.{no_row}
use Rattle.table_rules.specs.Objects.{Obj}

-- The one chunk that contains the point.
pub record IsChunkOf (g : Partition) (p : Point) (chunk : ℕ) : Type 0 where
  pub there : chunk < chunk_count g
  pub holds : IsTrue (in_chunk g chunk p)
  pub only : IsOnlyChunk g chunk p

-- The chunks of the first n objects.
pub record AreRowChunks (g : Partition) (objects : List Obj) (n : ℕ) (chunks : List ℕ) : Type 0 where
  pub all : length chunks ≡ n
  pub each : (row : ℕ) → row < n → IsChunkOf g (get_or objects row no_row).at (get_or chunks row 0)

-- The ids of the first n objects are consecutive, from this first one on.
pub record AreConsecutive (objects : List Obj) (n : ℕ) (first : ℤ) : Type 0 where
  pub each : (row : ℕ) → row < n → first +ℤ pos row ≡ (get_or objects row no_row).id
