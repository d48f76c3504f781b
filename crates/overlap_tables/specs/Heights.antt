-- The stripes whose chunks can be near a height.
use Rattle.std.specs.Prelude.{◌≡◌, ℕ, ◌≤◌, ◌<◌, ℤ, pos, ◌+ℤ◌, ◌≤ℤ◌, ◌<ℤ◌, take, length, false}
use Rattle.sky_vector.specs.Points.{Point}
use Rattle.sky_rules.specs.Partition.{Partition, chunk_count, chunks_in, sky_bottom, sky_end}
use Rattle.overlap_tables.specs.Overlaps.{in_full_overlap}

-- a stripe that ends in the sky at or below the lower height ends farther than the reach below z
abbrev pub ReachesDown : ℤ → ℕ → ℤ → Type 0
ReachesDown z reach low = (end : ℤ) → sky_bottom <ℤ end → end ≤ℤ low → (end +ℤ pos reach) ≤ℤ z

-- a stripe that begins in the sky above the upper height begins farther than the reach above z
abbrev pub ReachesUp : ℤ → ℕ → ℤ → Type 0
ReachesUp z reach high = (begin : ℤ) → begin <ℤ sky_end → high <ℤ begin → (z +ℤ pos reach) <ℤ begin

-- the number of the first chunk of the stripe with this number
abbrev pub first_chunk : Partition → ℕ → ℕ
first_chunk g i = chunks_in (take i g.stripes)

-- The stripes from one number up to but not including another contain each chunk whose full overlap contains the point.
pub record HaveOthers (g : Partition) (p : Point) (from to : ℕ) : Type 0 where
  pub order : from ≤ to
  pub within : to ≤ length g.stripes
  pub below : (c : ℕ) → c < chunk_count g → c < first_chunk g from → in_full_overlap g c p ≡ false
  pub above : (c : ℕ) → c < chunk_count g → first_chunk g to ≤ c → in_full_overlap g c p ≡ false
