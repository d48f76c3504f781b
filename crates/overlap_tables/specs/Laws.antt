-- Lemmas on overlap.
use Rattle.std.specs.Prelude.{◌↔◌, ℕ, ◌<◌, ◌≤ℤ◌, pos, ◌||◌, IsTrue}
use Rattle.std.specs.List.{AllPairs, Contains}
use Rattle.sky_vector.specs.Points.{Point, chord_squared, square}
use Rattle.sky_rules.specs.Partition.{Partition, chunk_count, overlap_at, sub_count}
use Rattle.sky_rules.specs.Limits.{IsSky}
use Rattle.sky_rules.specs.Bounds.{in_chunk, in_sub, near_chunk, near_sub}
use Rattle.overlap_tables.specs.Overlaps.{in_full_overlap, near_others}

-- The location of a point that is no farther than the overlap radius from a point of a subchunk: in the near region of
-- the subchunk and in that of its chunk, hence in the chunk or in the full overlap of the chunk.
pub record StaysIn (g : Partition) (c s : ℕ) (p : Point) : Type 0 where
  pub near_its_sub : IsTrue (near_sub g c s p)
  pub near_its_chunk : IsTrue (near_chunk g c p)
  pub held : IsTrue (in_chunk g c p || in_full_overlap g c p)

-- a near-neighbour join of a subchunk never leaves its chunk and the full overlap of that
abbrev pub OverlapIsEnough : Type 0
OverlapIsEnough =
    (g : Partition) (c s : ℕ) (u v : Point) → IsSky g → c < chunk_count g → s < sub_count g c
    → IsTrue (in_sub g c s u) → chord_squared u v ≤ℤ square (pos (overlap_at g c))
    → StaysIn g c s v

-- the chunks that need a point ascend, none twice
abbrev pub OthersAscend : Type 0
OthersAscend = (g : Partition) (p : Point) → AllPairs (λ a b. a < b) (near_others g p)

-- the chunks that need a point are those whose full overlap contains it
abbrev pub OthersNeedIt : Type 0
OthersNeedIt =
    (g : Partition) (p : Point) (c : ℕ)
    → Contains (near_others g p) c ↔ ((c < chunk_count g) × IsTrue (in_full_overlap g c p))
