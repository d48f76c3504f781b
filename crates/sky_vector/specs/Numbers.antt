-- The numbers that a query computes.
use Rattle.std.specs.Prelude.{ℤ, pos, neg_ℤ, ◌≤ℤ◌, int_le, Bool, ◌&&◌}
use Rattle.sky_vector.specs.declared.limits.TheConstants.{NUMBER_MOST}

-- a number that a query computes is from -2^100 to 2^100
abbrev pub IsQueryNumber : ℤ → Type 0
IsQueryNumber z = (neg_ℤ (pos NUMBER_MOST) ≤ℤ z) × (z ≤ℤ pos NUMBER_MOST)

-- `IsQueryNumber` as a Boolean test
abbrev pub is_query_number : ℤ → Bool
is_query_number z = int_le (neg_ℤ (pos NUMBER_MOST)) z && int_le z (pos NUMBER_MOST)
