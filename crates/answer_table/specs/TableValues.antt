-- How a value of an answer is stored as one number.
use Rattle.std.specs.Prelude.{ℤ, pos, neg_ℤ, ◌-ℤ◌, ◌^◌, int_lt, int_le, if◌then◌else◌}
use Rattle.answer_rules.specs.declared.value.Value.{Value}
use Rattle.answer_rules.specs.declared.value.Value.TheVariants.{Null, Whole, Fixed4}
use Rattle.sky_vector.specs.declared.limits.TheConstants.{NUMBER_MOST}

-- a number below all numbers of a query is NULL, one of them is itself, and one above them is an average, to which 2^126
-- is added
abbrev pub value_in : ℤ → Value
value_in code =
    if int_lt code (neg_ℤ (pos NUMBER_MOST)) then Null
    else if int_le code (pos NUMBER_MOST) then Whole code
    else Fixed4 (code -ℤ pos (2 ^ 126))
