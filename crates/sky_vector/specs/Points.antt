-- Points of the grid: whole coordinates, and which points are positions of the sky.
use Rattle.std.specs.Prelude.{◌≡◌, ℤ, pos, neg_ℤ, ◌+ℤ◌, ◌-ℤ◌, ◌*ℤ◌, ◌*◌, ◌≤ℤ◌, int_le, Bool, true, ◌&&◌}
use Rattle.sky_vector.specs.declared.limits.TheConstants.{COORDINATE_MOST, LENGTH_LEAST, LENGTH_MOST, PART_MOST}

-- a point in grid units
pub record Point : Type 0 where
  pub x : ℤ
  pub y : ℤ
  pub z : ℤ

-- a part of a point or of a direction is from -2^29 to 2^29
abbrev pub IsWithin : ℤ → Type 0
IsWithin part = (neg_ℤ (pos PART_MOST) ≤ℤ part) × (part ≤ℤ pos PART_MOST)

-- a coordinate of a position of the sky is within the largest size of such a position's coordinates
abbrev pub IsCoordinate : ℤ → Type 0
IsCoordinate part = (neg_ℤ (pos COORDINATE_MOST) ≤ℤ part) × (part ≤ℤ pos COORDINATE_MOST)

-- `IsCoordinate` as a Boolean test
abbrev pub is_coordinate : ℤ → Bool
is_coordinate part = int_le (neg_ℤ (pos COORDINATE_MOST)) part && int_le part (pos COORDINATE_MOST)

-- the number times itself
abbrev pub square : ℤ → ℤ
square a = a *ℤ a

-- the square of a point's distance from the centre of the sphere
abbrev pub square_of : Point → ℤ
square_of p = square p.x +ℤ square p.y +ℤ square p.z

-- the point is near enough to the sphere of radius 2^28: its distance from the centre is from 2^28 - 16 to 2^28 + 16
abbrev pub is_admissible : Point → Bool
is_admissible p =
    int_le (pos (LENGTH_LEAST * LENGTH_LEAST)) (square_of p) && int_le (square_of p) (pos (LENGTH_MOST * LENGTH_MOST))

-- `is_admissible` as a proposition
abbrev pub IsAdmissible : Point → Type 0
IsAdmissible p = is_admissible p ≡ true

-- the square of the chord between two points: the sum of the three squared differences
abbrev pub chord_squared : Point → Point → ℤ
chord_squared p q = square (p.x -ℤ q.x) +ℤ square (p.y -ℤ q.y) +ℤ square (p.z -ℤ q.z)
