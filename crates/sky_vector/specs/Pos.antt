-- A position, as contracts see it.
use Rattle.sky_vector.specs.Points.{Point}
use Rattle.sky_vector.specs.declared.position.Pos.{Pos}

-- the point of a position
abbrev pub point : Pos → Point
point p = record { x = p.x; y = p.y; z = p.z }
