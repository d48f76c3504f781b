-- Tests of one value, and the conditions that are one.
use Rattle.std.specs.Prelude.{◌≡◌, ℤ, int_le, Bool, false, ◌&&◌, Option, None, Some}
use Rattle.sky_vector.specs.Points.{Point}
use Rattle.sql_bound.specs.declared.expr.BoundCol.{BoundCol}
use Rattle.value_rules.specs.Formulas.{Formula}
use Rattle.value_rules.specs.Truth.{compares, is_true, truth_at}
use Rattle.source_filter.specs.declared.test.Test.{Test}
use Rattle.source_filter.specs.declared.test.Test.TheVariants.{Compare, Range}
use Rattle.source_filter.specs.declared.test.ColumnTest.{ColumnTest}

-- the number passes the test
abbrev pub number_passes : Test → ℤ → Bool
number_passes (Compare op n) z = compares op z n
number_passes (Range low high) z = int_le low z && int_le z high

-- the value passes the test; NULL passes none
abbrev pub passes : Test → Option ℤ → Bool
passes t None = false
passes t (Some z) = number_passes t z

-- the formula holds if and only if the value in the column passes the test
abbrev pub IsColumnTest : Formula → ColumnTest → Type 0
IsColumnTest f t =
    (cells : BoundCol → Option ℤ) (at : Point) → is_true (truth_at cells at f) ≡ passes t.test (cells t.col)
