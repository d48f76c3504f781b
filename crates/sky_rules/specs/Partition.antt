-- The partition of the sky: stripes by height, and in each stripe chunks by direction. Chunks are numbered from 0,
-- upwards through the stripes and in a stripe by their wedges. Stripes, chunks and subchunks are Qserv's (SC 2011).
use Rattle.std.specs.Prelude.{ℕ, ◌+◌, ◌-◌, ◌*◌, ℤ, pos, neg_ℤ, List, [], ◌∷◌, map, min, max, nat_lt, if◌then◌else◌, unwrap_or}
use Rattle.std.specs.List.{sum_by, reduce}
use Rattle.sky_vector.specs.declared.limits.TheConstants.{COORDINATE_MOST}

-- A stripe: its lowest z, its chunks, the columns and rows of subchunks in each chunk, and the radius of its overlap.
pub record Stripe : Type 0 where
  pub z_low : ℤ
  pub chunks : ℕ
  pub columns : ℕ
  pub rows : ℕ
  pub overlap : ℕ

-- A partition: its stripes, lowest first.
pub record Partition : Type 0 where
  pub stripes : List Stripe

-- the lowest z of a position
abbrev pub sky_bottom : ℤ
sky_bottom = neg_ℤ (pos COORDINATE_MOST)

-- the first z above all positions
abbrev pub sky_end : ℤ
sky_end = pos (COORDINATE_MOST + 1)

-- the first z above the stripe that precedes these: the next stripe's lowest z, or the end of the sky if there is none
abbrev pub floor_of : List Stripe → ℤ
floor_of [] = sky_end
floor_of (next ∷ rest) = next.z_low

-- the number of chunks of these stripes
abbrev pub chunks_in : List Stripe → ℕ
chunks_in stripes = sum_by (λ s. s.chunks) stripes

-- the number of chunks
abbrev pub chunk_count : Partition → ℕ
chunk_count g = chunks_in g.stripes

-- The site of a chunk: its stripe, the first z above the stripe, and the chunk's wedge.
pub record Site : Type 0 where
  pub stripe : Stripe
  pub end : ℤ
  pub wedge : ℕ

-- the site of no chunk: a stripe without height above the sky
abbrev pub nowhere : Site
nowhere = record { stripe = record { z_low = sky_end; chunks = 0; columns = 0; rows = 0; overlap = 0 }; end = sky_end; wedge = 0 }

-- the site of chunk c of these stripes, counted from their first one
abbrev pub site_in : List Stripe → ℕ → Site
site_in [] c = nowhere
site_in (s ∷ rest) c =
    if nat_lt c s.chunks then record { stripe = s; end = floor_of rest; wedge = c }
    else site_in rest (c - s.chunks)

-- the site of chunk c
abbrev pub site_of : Partition → ℕ → Site
site_of g c = site_in g.stripes c

-- the stripe of a chunk
abbrev pub stripe_of : Partition → ℕ → Stripe
stripe_of g c = (site_of g c).stripe

-- the number of subchunks of a chunk
abbrev pub sub_count : Partition → ℕ → ℕ
sub_count g c = (stripe_of g c).rows * (stripe_of g c).columns

-- the overlap radius of a chunk: that of its stripe
abbrev pub overlap_at : Partition → ℕ → ℕ
overlap_at g c = (stripe_of g c).overlap

-- the least overlap radius of all stripes
abbrev pub least_overlap : Partition → ℕ
least_overlap g = unwrap_or (reduce min (map (λ s. s.overlap) g.stripes)) 0

-- the greatest overlap radius of all stripes
abbrev pub greatest_overlap : Partition → ℕ
greatest_overlap g = unwrap_or (reduce max (map (λ s. s.overlap) g.stripes)) 0
