-- Products of the plane: of a position in the sky only x and y count here.
use Rattle.std.specs.Prelude.{ℤ, ◌+ℤ◌, ◌-ℤ◌, ◌*ℤ◌, ◌≤ℤ◌, int_le, Bool}
use Rattle.sky_vector.specs.Points.{square}

-- the plane product of (ax, ay) and (bx, by): above 0 if the second is less than half a turn to the left of the first,
-- and 0 if they are on one line
abbrev pub plane_product : ℤ → ℤ → ℤ → ℤ → ℤ
plane_product ax ay bx by = (ax *ℤ by) -ℤ (ay *ℤ bx)

-- the squared length of (dx, dy)
abbrev pub length_squared : ℤ → ℤ → ℤ
length_squared dx dy = square dx +ℤ square dy

-- the point (x, y) is no farther from the line along (dx, dy) than the root of n, stated by squares
abbrev pub IsNearLine : ℤ → ℤ → ℤ → ℤ → ℤ → Type 0
IsNearLine dx dy x y n = square (plane_product dx dy x y) ≤ℤ (length_squared dx dy *ℤ n)

-- `IsNearLine` as a Boolean test
abbrev pub is_near_line : ℤ → ℤ → ℤ → ℤ → ℤ → Bool
is_near_line dx dy x y n = int_le (square (plane_product dx dy x y)) (length_squared dx dy *ℤ n)
