-- Lemmas on the rows of subchunks, over the lists that a store returns.
use Rattle.std.specs.Prelude.{◌≡◌, ℕ, ◌<◌, ◌≤ℤ◌, pos, ◌⊎◌, All, List, Some, slice_get}
use Rattle.std.specs.List.{Contains}
use Rattle.sky_vector.specs.Points.{IsAdmissible, chord_squared, square}
use Rattle.table_rules.specs.Objects.{Obj}
use Rattle.sky_rules.specs.Partition.{Partition, chunk_count, overlap_at, sub_count}
use Rattle.sky_rules.specs.Limits.{IsSky}
use Rattle.chunk_store.specs.Places.{chunk_rows, sub_rows, sub_overlap_rows}

-- The one subchunk of a chunk whose rows include the given row number.
pub record IsOnlySub (g : Partition) (objects : List Obj) (c place s : ℕ) : Type 0 where
  pub there : s < sub_count g c
  pub has : Contains (sub_rows g objects c s) place
  pub only : (t : ℕ) → t < sub_count g c → Contains (sub_rows g objects c t) place → t ≡ s

-- each row of a chunk is a row of exactly one of its subchunks
abbrev pub EachRowInOneSub : Type 0
EachRowInOneSub =
    (g : Partition) (objects : List Obj) (c place : ℕ) → IsSky g → All (λ o. IsAdmissible o.at) objects → c < chunk_count g
    → Contains (chunk_rows g objects c) place → (s : ℕ) × IsOnlySub g objects c place s

-- the rows of a subchunk are rows of its chunk
abbrev pub SubRowsAreTheChunks : Type 0
SubRowsAreTheChunks =
    (g : Partition) (objects : List Obj) (c s place : ℕ) → IsSky g → c < chunk_count g → s < sub_count g c
    → Contains (sub_rows g objects c s) place → Contains (chunk_rows g objects c) place

-- a row no farther than the overlap radius from a row of a subchunk is a row of the subchunk or of its overlap
abbrev pub NearRowsAreThere : Type 0
NearRowsAreThere =
    (g : Partition) (objects : List Obj) (c s i j : ℕ) (u v : Obj) → IsSky g → c < chunk_count g → s < sub_count g c
    → slice_get objects i ≡ Some u → slice_get objects j ≡ Some v → Contains (sub_rows g objects c s) i
    → chord_squared u.at v.at ≤ℤ square (pos (overlap_at g c))
    → Contains (sub_rows g objects c s) j ⊎ Contains (sub_overlap_rows g objects c s) j
