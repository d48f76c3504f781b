-- The integers of a text.
use Rattle.std.specs.Prelude.{ℤ, pos, ◌≤ℤ◌}
use Rattle.sql_token.specs.declared.limits.TheConstants.{INT_MOST}

-- a number is from 0 to 2^63 - 1, the range of an integer of a text
abbrev pub IsInt : ℤ → Type 0
IsInt z = (pos 0 ≤ℤ z) × (z ≤ℤ pos INT_MOST)
