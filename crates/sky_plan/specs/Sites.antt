-- The sites that a chunk of a partition within the limits can have.
use Rattle.std.specs.Prelude.{ℕ, ◌+◌, ◌<◌, ℤ, pos, ◌+ℤ◌, ◌≤ℤ◌, ◌<ℤ◌, drop, length}
use Rattle.sky_rules.specs.Partition.{Partition, Site, sky_bottom, sky_end, floor_of}
use Rattle.sky_rules.specs.declared.limits.TheConstants.{HEIGHT_LEAST}
use Rattle.sky_rules.specs.Limits.{IsStripe}
use Rattle.sky_rules.specs.Bounds.{row_start}
use Rattle.sky_plan.specs.Plans.{stripe_numbered}

-- A site within the limits: high enough, inside the sky, and of a wedge that its stripe has.
pub record IsPlaced (site : Site) : Type 0 where
  pub stripe : IsStripe site.stripe
  pub bottom : sky_bottom ≤ℤ site.stripe.z_low
  pub high : (site.stripe.z_low +ℤ pos HEIGHT_LEAST) ≤ℤ site.end
  pub end : site.end ≤ℤ sky_end
  pub wedge : site.wedge < site.stripe.chunks

-- Row t of a site's subchunks contains the height z.
pub record HasHeight (site : Site) (t : ℕ) (z : ℤ) : Type 0 where
  pub there : t < site.stripe.rows
  pub low : row_start site t ≤ℤ z
  pub high : z <ℤ row_start site (t + 1)

-- the first z above the stripe with this number
abbrev pub end_numbered : Partition → ℕ → ℤ
end_numbered g i = floor_of (drop (i + 1) g.stripes)

-- the site of a wedge of the stripe with this number
abbrev pub site_numbered : Partition → ℕ → ℕ → Site
site_numbered g i w = record { stripe = stripe_numbered g i; end = end_numbered g i; wedge = w }

-- The stripe with this number spans the height.
pub record SpansHeight (g : Partition) (i : ℕ) (z : ℤ) : Type 0 where
  pub there : i < length g.stripes
  pub low : (stripe_numbered g i).z_low ≤ℤ z
  pub high : z <ℤ end_numbered g i
