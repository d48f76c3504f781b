-- Lemmas about the partition.
use Rattle.std.specs.Prelude.{◌≡◌, ℕ, ◌+◌, ◌-◌, ◌*◌, ◌/◌, ◌<◌, ◌≤◌, ◌≤ℤ◌, pos, List, IsTrue, Ok}
use Rattle.sky_vector.specs.Points.{Point, IsAdmissible, chord_squared, square}
use Rattle.sky_rules.specs.Partition.{Partition, chunk_count, sub_count, overlap_at}
use Rattle.sky_rules.specs.Bounds.{in_chunk, in_sub, near_chunk, near_sub}
use Rattle.sky_rules.specs.Limits.{IsSky}
use Rattle.sky_rules.specs.SkyText.{sky_of}

-- the partition that a sky text is accepted as is within the limits
abbrev pub AcceptedIsWithinLimits : Type 0
AcceptedIsWithinLimits = (text : List ℕ) (g : Partition) → sky_of text ≡ Ok g → IsSky g

-- The one place of a point: its chunk and its subchunk, and no other chunk and no other subchunk of any chunk holds it.
pub record IsOnlyPlace (g : Partition) (c s : ℕ) (p : Point) : Type 0 where
  pub chunk_there : c < chunk_count g
  pub sub_there : s < sub_count g c
  pub in_its_chunk : IsTrue (in_chunk g c p)
  pub in_its_sub : IsTrue (in_sub g c s p)
  pub no_other_chunk : (d : ℕ) → d < chunk_count g → IsTrue (in_chunk g d p) → d ≡ c
  pub no_other_sub : (d t : ℕ) → d < chunk_count g → t < sub_count g d → IsTrue (in_sub g d t p) → (d ≡ c) × (t ≡ s)

-- each admissible point is in exactly one chunk, in exactly one subchunk of it, and in no subchunk of another
abbrev pub ExactlyOnePlace : Type 0
ExactlyOnePlace =
    (g : Partition) (p : Point) → IsSky g → IsAdmissible p → (c : ℕ) × ((s : ℕ) × IsOnlyPlace g c s p)

-- a subchunk's points are points of its chunk
abbrev pub SubLiesInItsChunk : Type 0
SubLiesInItsChunk =
    (g : Partition) (c s : ℕ) (p : Point) → IsSky g → c < chunk_count g → s < sub_count g c
    → IsTrue (in_sub g c s p) → IsTrue (in_chunk g c p)

-- a point no farther than the overlap radius from a point of a subchunk is in the near region of the subchunk, and in
-- that of its chunk: so a near-neighbour join never leaves the chunk and its overlap
abbrev pub NearEnough : Type 0
NearEnough =
    (g : Partition) (c s : ℕ) (u v : Point) → IsSky g → c < chunk_count g → s < sub_count g c
    → IsTrue (in_sub g c s u) → chord_squared u v ≤ℤ square (pos (overlap_at g c))
    → IsTrue (near_sub g c s v) × IsTrue (near_chunk g c v)

-- the row that contains the height d above the bound of a stripe is found by one division
abbrev pub RowByDivision : Type 0
RowByDivision =
    (height rows d t : ℕ) → 0 < rows → d < height → t ≡ ((d + 1) * rows - 1) / height
    → (t < rows) × (t * height / rows ≤ d) × (d < (t + 1) * height / rows)
