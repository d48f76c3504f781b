-- Points of worked examples.
use Rattle.std.specs.Prelude.{pos, negsuc}
use Rattle.sky_vector.specs.Points.{Point}

-- a position three units left of the meridian
abbrev pub left : Point
left = record { x = pos 268435456; y = pos 3; z = pos 0 }

-- a position three units right of the meridian
abbrev pub right : Point
right = record { x = pos 268435456; y = negsuc 2; z = pos 0 }

-- the lowest admissible point of the axis
abbrev pub lowest : Point
lowest = record { x = pos 0; y = pos 0; z = negsuc 268435471 }

-- the point below it
abbrev pub too_low : Point
too_low = record { x = pos 0; y = pos 0; z = negsuc 268435472 }
