-- Tests and ranges of columns of worked examples.
use Rattle.std.specs.Prelude.{ℕ, ℤ, pos, negsuc, Bool, true, false, List, [], map, Option}
use Rattle.sql_tree.specs.declared.cond.Cmp.TheVariants.{Equal, Less, AtMost, More, AtLeast}
use Rattle.sql_bound.specs.Trees.{factor, product, sum, cond_of, both}
use Rattle.sql_bound.specs.declared.area.AreaTest.{AreaTest}
use Rattle.sql_bound.specs.declared.cond.BoundCond.{BoundCond}
use Rattle.sql_bound.specs.declared.cond.BoundPred.TheVariants as pred
use Rattle.sql_bound.specs.declared.expr.BoundAtom.TheVariants as atom
use Rattle.sql_bound.specs.declared.expr.BoundCol.{BoundCol}
use Rattle.sql_bound.specs.declared.expr.BoundExpr.{BoundExpr}
use Rattle.value_rules.specs.ColumnTests.{ColumnTest, ColumnRange, passes, is_within}
use Rattle.value_rules.specs.Examples.{id, flux, flux_times_id, is_bright, number}

-- the column of the flux
abbrev pub flux_col : BoundCol
flux_col = record { second = false; col = 4 }

-- a number after a minus
abbrev pub below_zero : ℕ → BoundExpr
below_zero n = sum (product (factor true (atom.Int (pos n))) []) []

-- flux>20
abbrev pub bright : ColumnTest
bright = record { col = flux_col; op = More; number = pos 20 }

-- 20<flux
abbrev pub bright_from_the_left : BoundCond
bright_from_the_left = cond_of false (pred.Compare (number 20) Less flux)

-- flux>=-5
abbrev pub from_below_zero : BoundCond
from_below_zero = cond_of false (pred.Compare flux AtLeast (below_zero 5))

-- NOT flux>20
abbrev pub not_bright : BoundCond
not_bright = cond_of true (pred.Compare flux More (number 20))

-- objectId=flux
abbrev pub id_is_flux : BoundCond
id_is_flux = cond_of false (pred.Compare id Equal flux)

-- 20=30
abbrev pub two_numbers : BoundCond
two_numbers = cond_of false (pred.Compare (number 20) Equal (number 30))

-- flux*objectId-1>20
abbrev pub product_is_bright : BoundCond
product_is_bright = cond_of false (pred.Compare flux_times_id More (number 20))

-- flux BETWEEN -5 AND 10, or with NOT
abbrev pub faint : Bool → BoundCond
faint negated = cond_of negated (pred.Between false flux (below_zero 5) (number 10))

-- flux NOT BETWEEN -5 AND 10
abbrev pub not_between : BoundCond
not_between = cond_of false (pred.Between true flux (below_zero 5) (number 10))

-- the range that `faint` tests
abbrev pub faint_range : ColumnRange
faint_range = record { col = flux_col; low = negsuc 4; high = pos 10 }

-- flux BETWEEN objectId AND 10
abbrev pub from_the_id : BoundCond
from_the_id = cond_of false (pred.Between false flux id (number 10))

-- (flux>=-5 AND objectId<=10)
abbrev pub of_two_columns : BoundCond
of_two_columns = both from_below_zero (cond_of false (pred.Compare id AtMost (number 10)))

-- (flux<=10 AND flux>20)
abbrev pub of_no_range : BoundCond
of_no_range = both (cond_of false (pred.Compare flux AtMost (number 10))) is_bright

-- an area test
abbrev pub in_area : AreaTest → BoundCond
in_area area = cond_of false (pred.Area area)

-- which of these values pass the test
abbrev pub which_pass : ColumnTest → List (Option ℤ) → List Bool
which_pass t values = map (passes t) values

-- which of these values are in the range
abbrev pub which_are_within : ColumnRange → List (Option ℤ) → List Bool
which_are_within r values = map (is_within r) values
