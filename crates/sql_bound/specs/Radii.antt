-- Squared radii of caps.
use Rattle.std.specs.Prelude.{ℤ, pos, ◌≤ℤ◌, int_le, Bool, ◌&&◌}
use Rattle.sky_vector.specs.declared.limits.TheConstants.{CHORD_SQUARED_MOST}

-- the number is from 0 to the largest n that a test of squared distances may name
abbrev pub IsSquaredRadius : ℤ → Type 0
IsSquaredRadius n = (pos 0 ≤ℤ n) × (n ≤ℤ pos CHORD_SQUARED_MOST)

-- `IsSquaredRadius` as a Boolean test
abbrev pub is_squared_radius : ℤ → Bool
is_squared_radius n = int_le (pos 0) n && int_le n (pos CHORD_SQUARED_MOST)
