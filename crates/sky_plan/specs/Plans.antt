-- What a plan stores besides its stripes.
use Rattle.std.specs.Prelude.{◌≡◌, ℕ, ◌+◌, ◌<◌, ◌≤◌, List, length, get_or, take}
use Rattle.sky_rules.specs.Partition.{Stripe, Partition, chunks_in, chunk_count, greatest_overlap, nowhere, overlap_at}
use Rattle.sky_rules.specs.Limits.{IsSky}

-- The number of each stripe's first chunk: it is the number of chunks below the stripe.
pub record AreFirsts (stripes : List Stripe) (firsts : List ℕ) : Type 0 where
  pub all : length firsts ≡ length stripes
  pub each : (i d : ℕ) → i < length stripes → get_or firsts i d ≡ chunks_in (take i stripes)

-- A partition within the limits, the first chunk of each of its stripes, the number of its chunks, and its greatest overlap.
pub record IsPlan (g : Partition) (kept : List ℕ) (all most : ℕ) : Type 0 where
  pub sky : IsSky g
  pub firsts : AreFirsts g.stripes kept
  pub count : all ≡ chunk_count g
  pub greatest : most ≡ greatest_overlap g

-- the stripe with this number, from 0
abbrev pub stripe_numbered : Partition → ℕ → Stripe
stripe_numbered g i = get_or g.stripes i nowhere.stripe

-- The stripe with this number contains the chunk.
pub record HasChunk (g : Partition) (i c : ℕ) : Type 0 where
  pub there : i < length g.stripes
  pub low : chunks_in (take i g.stripes) ≤ c
  pub high : c < chunks_in (take (i + 1) g.stripes)

-- no chunk's overlap is greater
abbrev pub CoversOverlaps : Partition → ℕ → Type 0
CoversOverlaps g most = (c : ℕ) → c < chunk_count g → overlap_at g c ≤ most
