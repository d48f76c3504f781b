-- The chunk and the subchunk of a point.
use Rattle.std.specs.Prelude.{◌≡◌, ℕ, ◌<◌, IsTrue}
use Rattle.sky_vector.specs.Points.{Point}
use Rattle.sky_rules.specs.Partition.{Partition, chunk_count, sub_count}
use Rattle.sky_rules.specs.Bounds.{in_chunk, in_sub}

-- no other chunk contains the point
abbrev pub IsOnlyChunk : Partition → ℕ → Point → Type 0
IsOnlyChunk g c p = (d : ℕ) → d < chunk_count g → IsTrue (in_chunk g d p) → d ≡ c

-- The subchunk is one of the chunk that contains the point, it contains the point, and no other subchunk of any chunk
-- does.
pub record SubHolds (g : Partition) (s : ℕ) (p : Point) : Type 0 where
  pub there : (c : ℕ) → c < chunk_count g → IsTrue (in_chunk g c p) → s < sub_count g c
  pub holds : (c : ℕ) → c < chunk_count g → IsTrue (in_chunk g c p) → IsTrue (in_sub g c s p)
  pub only : (c t : ℕ) → c < chunk_count g → t < sub_count g c → IsTrue (in_sub g c t p) → t ≡ s
