-- The meridian directions at which the wedges of a stripe begin: grid points on a square, without angles. That a stripe
-- is cut into equal parts of longitude is Qserv's idea (SC 2011). The square in place of a circle is a rule of this
-- repository.
use Rattle.std.specs.Prelude.{ℕ, ℤ, pos, neg_ℤ, ◌+◌, ◌*◌, ◌-ℤ◌, ◌*ℤ◌, ◌≤ℤ◌, ◌<ℤ◌, nat_lt, if◌then◌else◌}
use Rattle.sky_vector.specs.Plane.{plane_product}
use Rattle.sky_vector.specs.declared.direction.Dir.{Dir}

-- A direction of the plane of x and y, as the point that it leads to from the centre.
pub record Direction : Type 0 where
  pub dx : ℤ
  pub dy : ℤ

-- the direction that leads to (x, y)
abbrev pub towards : ℤ → ℤ → Direction
towards x y = record { dx = x; dy = y }

-- the direction that a `Dir` represents
abbrev pub direction_shown : Dir → Direction
direction_shown d = towards d.dx d.dy

-- the point on the perimeter of the square of half side n that is s steps upwards from the middle of the right side
unfoldable pub walk : ℕ → ℕ → Direction
walk n s =
    if nat_lt s n then towards (pos n) (pos s)
    else if nat_lt s (3 * n) then towards (pos (2 * n) -ℤ pos s) (pos n)
    else if nat_lt s (5 * n) then towards (neg_ℤ (pos n)) (pos (4 * n) -ℤ pos s)
    else if nat_lt s (7 * n) then towards (pos s -ℤ pos (6 * n)) (neg_ℤ (pos n))
    else towards (pos n) (pos s -ℤ pos (8 * n))

-- the direction at which wedge k of n begins: the perimeter is 8 n steps long, and a wedge takes 8 of them
unfoldable pub heading : ℕ → ℕ → Direction
heading n k = walk n (8 * k)

-- the plane product of a direction and the point (x, y): how far the point is past the direction, and below 0 if it is
-- short of it
abbrev pub past : Direction → ℤ → ℤ → ℤ
past d x y = plane_product d.dx d.dy x y

-- the point is at or past the direction of wedge k, and short of the next one's
abbrev pub LiesBetween : ℕ → ℕ → ℤ → ℤ → Type 0
LiesBetween n k x y = (pos 0 ≤ℤ past (heading n k) x y) × (past (heading n (k + 1)) x y <ℤ pos 0)

-- a direction, made the given number of times as long
abbrev pub scaled : ℕ → Direction → Direction
scaled m d = towards (pos m *ℤ d.dx) (pos m *ℤ d.dy)
