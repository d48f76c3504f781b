-- How a value is stored as one number.
use Rattle.std.specs.Prelude.{ℤ, pos, neg_ℤ, int_lt, ◌≤ℤ◌, Option, None, Some, if◌then◌else◌}
use Rattle.sky_vector.specs.declared.limits.TheConstants.{NUMBER_MOST}

-- a number below all numbers of a query is NULL, and any other is itself
abbrev pub cell_in : ℤ → Option ℤ
cell_in code = if int_lt code (neg_ℤ (pos NUMBER_MOST)) then None else Some code

-- the number is not above the numbers of a query
abbrev pub IsCode : ℤ → Type 0
IsCode code = code ≤ℤ pos NUMBER_MOST
