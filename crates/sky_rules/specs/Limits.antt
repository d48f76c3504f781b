-- A partition within the limits, as an accepted sky text spells it.
use Rattle.std.specs.Prelude.{◌≡◌, ◌*◌, ◌≤◌, ◌<◌, pos, ◌+ℤ◌, ◌≤ℤ◌, List, [], ◌∷◌, length, All}
use Rattle.wedge_rules.specs.Wedge.{IsWedgeCount}
use Rattle.sky_rules.specs.declared.limits.TheConstants.{STRIPES_MOST, CHUNKS_MOST, STRIPE_CHUNKS_MOST}
use Rattle.sky_rules.specs.declared.limits.TheConstants.{CUTS_MOST, HEIGHT_LEAST, OVERLAP_MOST}
use Rattle.sky_rules.specs.Partition.{Stripe, Partition, floor_of, sky_bottom, chunk_count}

-- A stripe within the limits: its number of chunks and its number of fine wedges are one or at least three.
pub record IsStripe (s : Stripe) : Type 0 where
  pub chunks : IsWedgeCount s.chunks
  pub few_chunks : s.chunks ≤ STRIPE_CHUNKS_MOST
  pub fine : IsWedgeCount (s.chunks * s.columns)
  pub some_columns : 1 ≤ s.columns
  pub few_columns : s.columns ≤ CUTS_MOST
  pub some_rows : 1 ≤ s.rows
  pub few_rows : s.rows ≤ CUTS_MOST
  pub overlap : s.overlap ≤ OVERLAP_MOST

-- each of the stripes is at least the least height
abbrev pub AreHigh : List Stripe → Type 0
AreHigh [] = Unit {0}
AreHigh (s ∷ rest) = ((s.z_low +ℤ pos HEIGHT_LEAST) ≤ℤ floor_of rest) × AreHigh rest

-- A partition within the limits.
pub record IsSky (g : Partition) : Type 0 where
  pub some : 0 < length g.stripes
  pub few : length g.stripes ≤ STRIPES_MOST
  pub bottom : floor_of g.stripes ≡ sky_bottom
  pub high : AreHigh g.stripes
  pub stripes : All IsStripe g.stripes
  pub few_chunks : chunk_count g ≤ CHUNKS_MOST
