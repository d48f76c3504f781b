-- The bounds that a region represents.
use Rattle.std.specs.Prelude.{ℤ, Option, option_map}
use Rattle.sky_vector.specs.declared.direction.Dir.{Dir}
use Rattle.wedge_rules.specs.Heading.{direction_shown}
use Rattle.sky_rules.specs.Bounds.{Bounds, Sides}
use Rattle.sky_plan.specs.declared.region.Region.{Region}

-- the two sides of a region
abbrev pub sides_shown : Option (Dir × Dir) → Option Sides
sides_shown sides =
    option_map (λ pair. record { first = direction_shown pair.0; second = direction_shown pair.1 }) sides

-- the bounds that a region represents
abbrev pub bounds_shown : Region → Bounds
bounds_shown r = record { z_low = r.z_low; z_high = r.z_high; sides = sides_shown r.sides; axis = r.axis }
