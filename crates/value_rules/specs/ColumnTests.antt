-- Vectorizable predicates: conditions that compare one column with integers, so that a scan can test a column at a
-- time. A number is written as an integer, or as a minus and an integer; brackets do not matter.
use Rattle.std.specs.Prelude.{ℤ, neg_ℤ, int_le, Bool, true, false, ◌&&◌, Option, None, Some, option_map, if◌then◌else◌}
use Rattle.std.specs.Option.{option_or}
use Rattle.sql_tree.specs.declared.cond.Cmp.{Cmp}
use Rattle.sql_tree.specs.declared.cond.Cmp.TheVariants.{Equal, Differs, Less, AtMost, More, AtLeast}
use Rattle.sql_bound.specs.declared.area.AreaTest.{AreaTest}
use Rattle.sql_bound.specs.declared.area.AreaTest.TheVariants.{Band, Cap, Boxed}
use Rattle.sql_bound.specs.declared.cond.BoundCond.{BoundCond}
use Rattle.sql_bound.specs.declared.expr.BoundCol.{BoundCol}
use Rattle.value_rules.specs.Formulas.{Formula, Compares, Among, IsNull, LiesIn, Not, And, Or, formula_of}
use Rattle.value_rules.specs.Sound.{same_col}
use Rattle.value_rules.specs.Terms.{Term, Number, Column, Minus, Plus, Less as Apart, Times}
use Rattle.value_rules.specs.Truth.{compares}

-- A comparison of the value in a column, on the left, with a number.
pub record ColumnTest : Type 0 where
  pub col : BoundCol
  pub op : Cmp
  pub number : ℤ

-- A range of the values in a column, both ends included.
pub record ColumnRange : Type 0 where
  pub col : BoundCol
  pub low : ℤ
  pub high : ℤ

-- the value passes the test; NULL passes none
abbrev pub passes : ColumnTest → Option ℤ → Bool
passes t None = false
passes t (Some z) = compares t.op z t.number

-- the value is in the range; NULL is in none
abbrev pub is_within : ColumnRange → Option ℤ → Bool
is_within r None = false
is_within r (Some z) = int_le r.low z && int_le z r.high

-- the operator with its sides exchanged: `5 < x` is `x > 5`
abbrev pub mirrored : Cmp → Cmp
mirrored Equal = Equal
mirrored Differs = Differs
mirrored Less = More
mirrored AtMost = AtLeast
mirrored More = Less
mirrored AtLeast = AtMost

-- the column, if the term is one
abbrev pub column_in : Term → Option BoundCol
column_in (Column c) = Some c
column_in (Number n) = None
column_in (Minus t) = None
column_in (Plus t u) = None
column_in (Apart t u) = None
column_in (Times t u) = None

-- the number, if the term is an integer
abbrev pub int_in : Term → Option ℤ
int_in (Number n) = Some n
int_in (Column c) = None
int_in (Minus t) = None
int_in (Plus t u) = None
int_in (Apart t u) = None
int_in (Times t u) = None

-- the number, if the term is an integer or a minus and an integer
abbrev pub literal_in : Term → Option ℤ
literal_in (Number n) = Some n
literal_in (Column c) = None
literal_in (Minus t) = option_map neg_ℤ (int_in t)
literal_in (Plus t u) = None
literal_in (Apart t u) = None
literal_in (Times t u) = None

-- the test of a column by a number, if both are there
abbrev pub test_by : Cmp → Option BoundCol → Option ℤ → Option ColumnTest
test_by op None n = None
test_by op (Some c) None = None
test_by op (Some c) (Some n) = Some (record { col = c; op = op; number = n })

-- the test that is a comparison of a column and a number, on either side
abbrev pub test_of_terms : Cmp → Term → Term → Option ColumnTest
test_of_terms op t u =
    option_or (test_by op (column_in t) (literal_in u)) (test_by (mirrored op) (column_in u) (literal_in t))

-- the test that is the formula, if it is one
abbrev pub test_in : Formula → Option ColumnTest
test_in (Compares op t u) = test_of_terms op t u
test_in (Among t list) = None
test_in (IsNull t) = None
test_in (LiesIn area) = None
test_in (Not f) = None
test_in (And f g) = None
test_in (Or f g) = None

-- the operator is >=
abbrev pub is_at_least : Cmp → Bool
is_at_least AtLeast = true
is_at_least op = false

-- the operator is <=
abbrev pub is_at_most : Cmp → Bool
is_at_most AtMost = true
is_at_most op = false

-- the range that is given by two tests of one column, the first >= and the second <=
abbrev pub range_by : Option ColumnTest → Option ColumnTest → Option ColumnRange
range_by None b = None
range_by (Some a) None = None
range_by (Some a) (Some b) =
    if is_at_least a.op && is_at_most b.op && same_col a.col b.col
    then Some (record { col = a.col; low = a.number; high = b.number })
    else None

-- the column of the heights of the first row
abbrev pub height_col : BoundCol
height_col = record { second = false; col = 3 }

-- the range that is the area test: a band is a range of heights
abbrev pub range_of_area : AreaTest → Option ColumnRange
range_of_area (Band lo hi) = Some (record { col = height_col; low = lo; high = hi })
range_of_area (Cap centre n) = None
range_of_area (Boxed lo hi a b) = None

-- the range that is the formula, if it is one
abbrev pub range_in : Formula → Option ColumnRange
range_in (Compares op t u) = None
range_in (Among t list) = None
range_in (IsNull t) = None
range_in (LiesIn area) = range_of_area area
range_in (Not f) = None
range_in (And f g) = range_by (test_in f) (test_in g)
range_in (Or f g) = None

-- the test of a column that is the condition, if it is one
abbrev pub column_test_of : BoundCond → Option ColumnTest
column_test_of c = test_in (formula_of c)

-- the range of a column that is the condition, if it is one: a BETWEEN of two numbers, or a band
abbrev pub column_range_of : BoundCond → Option ColumnRange
column_range_of c = range_in (formula_of c)
