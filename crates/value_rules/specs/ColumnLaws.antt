-- Lemmas about the tests and ranges of columns: a condition that is one holds exactly if the value in the column
-- passes.
use Rattle.std.specs.Prelude.{◌≡◌, ℤ, false, ◌&&◌, [], Option, None, Some}
use Rattle.sky_vector.specs.declared.direction.Dir.{Dir}
use Rattle.sky_vector.specs.Points.{Point}
use Rattle.sql_tree.specs.declared.cond.Cmp.{Cmp}
use Rattle.sql_tree.specs.declared.cond.Cmp.TheVariants.{AtMost, AtLeast}
use Rattle.sql_bound.specs.Trees.{cond_of, all_of, any_of}
use Rattle.sql_bound.specs.declared.area.AreaTest.TheVariants.{Band, Boxed}
use Rattle.sql_bound.specs.declared.cond.BoundCond.{BoundCond}
use Rattle.sql_bound.specs.declared.cond.BoundPred.TheVariants as pred
use Rattle.sql_bound.specs.declared.expr.BoundCol.{BoundCol}
use Rattle.sql_bound.specs.declared.expr.BoundExpr.{BoundExpr}
use Rattle.value_rules.specs.Areas.{area_holds, between_dirs}
use Rattle.value_rules.specs.ColumnTests.{ColumnTest, ColumnRange, passes, is_within, mirrored, column_in, literal_in}
use Rattle.value_rules.specs.ColumnTests.{column_test_of, column_range_of}
use Rattle.value_rules.specs.Terms.{term_of}
use Rattle.value_rules.specs.Truth.{compared, truth_and, truth_of, holds}
use Rattle.value_rules.specs.Values.{Pick, cell_of}

-- On a row or pair, the condition and the test of a column have the same truth, and the condition holds if the value
-- passes.
pub record SaysTest (c : BoundCond) (t : ColumnTest) (p : Pick) : Type 0 where
  pub truth : truth_of c p ≡ compared t.op (cell_of p t.col) (Some t.number)
  pub holds : holds c p ≡ passes t (cell_of p t.col)

-- a condition that is a test of a column has that test's truth, and holds if and only if the value passes
abbrev pub TestIsItsComparison : Type 0
TestIsItsComparison = (c : BoundCond) (t : ColumnTest) (p : Pick) → column_test_of c ≡ Some t → SaysTest c t p

-- On a row or pair, the condition has the truth of two comparisons joined by AND, and holds if the value is in the
-- range.
pub record SaysRange (c : BoundCond) (r : ColumnRange) (p : Pick) : Type 0 where
  pub truth : truth_of c p
      ≡ truth_and (compared AtLeast (cell_of p r.col) (Some r.low)) (compared AtMost (cell_of p r.col) (Some r.high))
  pub holds : holds c p ≡ is_within r (cell_of p r.col)

-- a condition that is a range of a column has the truth of both comparisons, and holds if and only if the value is
-- within
abbrev pub RangeIsTwoComparisons : Type 0
RangeIsTwoComparisons = (c : BoundCond) (r : ColumnRange) (p : Pick) → column_range_of c ≡ Some r → SaysRange c r p

-- if the column has no value, a test of it is unknown, and does not hold
abbrev pub AbsentFailsTest : Type 0
AbsentFailsTest =
    (c : BoundCond) (t : ColumnTest) (p : Pick) → column_test_of c ≡ Some t → cell_of p t.col ≡ None
    → (truth_of c p ≡ None) × (holds c p ≡ false)

-- if the column has no value, a range of it is unknown, and does not hold
abbrev pub AbsentFailsRange : Type 0
AbsentFailsRange =
    (c : BoundCond) (r : ColumnRange) (p : Pick) → column_range_of c ≡ Some r → cell_of p r.col ≡ None
    → (truth_of c p ≡ None) × (holds c p ≡ false)

-- comparing two values equals the mirrored comparison with the sides exchanged, NULL included
abbrev pub MirroredCompares : Type 0
MirroredCompares = (op : Cmp) (a b : Option ℤ) → compared (mirrored op) b a ≡ compared op a b

-- comparing two expressions equals the mirrored comparison with the sides exchanged
abbrev pub MirroredIsTheSame : Type 0
MirroredIsTheSame =
    (op : Cmp) (left right : BoundExpr) (p : Pick)
    → truth_of (cond_of false (pred.Compare right (mirrored op) left)) p
    ≡ truth_of (cond_of false (pred.Compare left op right)) p

-- mirroring an operator twice gives the operator itself
abbrev pub MirroredTwice : Type 0
MirroredTwice = (op : Cmp) → mirrored (mirrored op) ≡ op

-- a column compared with a number is the test
abbrev pub ColumnFirst : Type 0
ColumnFirst =
    (op : Cmp) (left right : BoundExpr) (c : BoundCol) (n : ℤ)
    → column_in (term_of left) ≡ Some c → literal_in (term_of right) ≡ Some n
    → column_test_of (cond_of false (pred.Compare left op right)) ≡ Some (record { col = c; op = op; number = n })

-- a number compared with a column is the mirrored test
abbrev pub NumberFirst : Type 0
NumberFirst =
    (op : Cmp) (left right : BoundExpr) (c : BoundCol) (n : ℤ)
    → literal_in (term_of left) ≡ Some n → column_in (term_of right) ≡ Some c
    → column_test_of (cond_of false (pred.Compare left op right))
    ≡ Some (record { col = c; op = mirrored op; number = n })

-- a column BETWEEN two numbers is the range
abbrev pub BetweenIsARange : Type 0
BetweenIsARange =
    (v low high : BoundExpr) (c : BoundCol) (a b : ℤ)
    → column_in (term_of v) ≡ Some c → literal_in (term_of low) ≡ Some a → literal_in (term_of high) ≡ Some b
    → column_range_of (cond_of false (pred.Between false v low high)) ≡ Some (record { col = c; low = a; high = b })

-- A condition in brackets is the same test, or the same range, as without them.
pub record BracketsDoNotCount (c : BoundCond) : Type 0 where
  pub test : column_test_of (cond_of false (pred.Bracket (any_of (all_of c []) []))) ≡ column_test_of c
  pub range : column_range_of (cond_of false (pred.Bracket (any_of (all_of c []) []))) ≡ column_range_of c

-- a box is its band and the condition that the point is between its directions
abbrev pub BoxIsItsBandBetweenDirections : Type 0
BoxIsItsBandBetweenDirections =
    (lo hi : ℤ) (a b : Dir) (p : Point)
    → area_holds (Boxed lo hi a b) p ≡ (area_holds (Band lo hi) p && between_dirs a b p)
