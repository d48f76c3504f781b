-- A condition that is a test or a range of a column holds exactly where the value in the column passes.
use Rattle.std.proofs.Common.{◌≡◌, ℕ, ℤ, neg_ℤ, Bool, true, false, Option, Some, None, refl, sym, ap, ◌∙◌, arith, nat_eq, if◌then◌else◌}
use Rattle.std.specs.Bool.{beq}
use Rattle.std.specs.Prelude.{int_le, not, ◌&&◌, option_map}
use Rattle.std.specs.Option.{option_or}
use Rattle.std.specs.Ordering.{int_eq}
use Rattle.std.proofs.lemmas.Bool.{and_parts}
use Rattle.sky_vector.specs.Points.{Point}
use Rattle.sql_tree.specs.declared.cond.Cmp.{Cmp}
use Rattle.sql_tree.specs.declared.cond.Cmp.TheVariants.{Equal, Differs, Less, AtMost, More, AtLeast}
use Rattle.sql_bound.specs.declared.area.AreaTest.{AreaTest}
use Rattle.sql_bound.specs.declared.area.AreaTest.TheVariants.{Band, Cap, Boxed}
use Rattle.sql_bound.specs.declared.cond.BoundCond.{BoundCond}
use Rattle.sql_bound.specs.declared.expr.BoundCol.{BoundCol}
use Rattle.value_rules.specs.ColumnTests.{ColumnTest, ColumnRange, passes, is_within, mirrored, column_in, int_in, literal_in, test_by, test_of_terms, test_in, range_in, range_by, height_col, range_of_area, is_at_least, is_at_most}
use Rattle.value_rules.specs.Areas.{area_holds}
use Rattle.value_rules.specs.ColumnLaws.{TestIsItsComparison, RangeIsTwoComparisons, AbsentFailsTest, AbsentFailsRange, MirroredCompares, MirroredIsTheSame, MirroredTwice, ColumnFirst, NumberFirst, BetweenIsARange, BracketsDoNotCount, BoxIsItsBandBetweenDirections}
use Rattle.value_rules.specs.Formulas.{Formula, Compares, Among, IsNull, LiesIn, Not, And, Or, formula_of}
use Rattle.value_rules.specs.Sound.{same_col}
use Rattle.value_rules.specs.Terms.{Term, Number, Column, Minus, Plus, Less as Apart, Times, term_of}
use Rattle.value_rules.specs.Truth.{compared, truth_and, truth_at, is_true}
use Rattle.value_rules.specs.Values.{cell_of, value_at}
use Rattle.value_rules.proofs.Trees.{trees}

-- two numbers are equal either way
even : (a b : ℤ) → int_eq a b ≡ int_eq b a
even a b = grind arith

pub mirrored_compares : MirroredCompares
mirrored_compares op None None = refl
mirrored_compares op None (Some b) = refl
mirrored_compares op (Some a) None = refl
mirrored_compares Equal (Some a) (Some b) = ap Some (even b a)
mirrored_compares Differs (Some a) (Some b) = ap (λ e. Some (not e)) (even b a)
mirrored_compares Less (Some a) (Some b) = refl
mirrored_compares AtMost (Some a) (Some b) = refl
mirrored_compares More (Some a) (Some b) = refl
mirrored_compares AtLeast (Some a) (Some b) = refl

pub mirrored_twice : MirroredTwice
mirrored_twice Equal = refl
mirrored_twice Differs = refl
mirrored_twice Less = refl
mirrored_twice AtMost = refl
mirrored_twice More = refl
mirrored_twice AtLeast = refl

pub mirrored_is_the_same : MirroredIsTheSame
mirrored_is_the_same op left right p = simp trees (mirrored_compares op (value_at (cell_of p) (term_of left)) (value_at (cell_of p) (term_of right)))

-- a term that is a column has the column's value
column_value : (cells : BoundCol → Option ℤ) (t : Term) (c : BoundCol) → column_in t ≡ Some c → value_at cells t ≡ cells c
column_value cells (Column d) c h = cc
column_value cells (Number n) c h = absurd cc
column_value cells (Minus t) c h = absurd cc
column_value cells (Plus t u) c h = absurd cc
column_value cells (Apart t u) c h = absurd cc
column_value cells (Times t u) c h = absurd cc

-- a minus before an int
minus_value : (cells : BoundCol → Option ℤ) (t : Term) (n : ℤ) → option_map neg_ℤ (int_in t) ≡ Some n → option_map neg_ℤ (value_at cells t) ≡ Some n
minus_value cells (Number m) n h = h
minus_value cells (Column d) n h = absurd cc
minus_value cells (Minus t) n h = absurd cc
minus_value cells (Plus t u) n h = absurd cc
minus_value cells (Apart t u) n h = absurd cc
minus_value cells (Times t u) n h = absurd cc

-- a term that is a number, with a minus or without, has its value
literal_value : (cells : BoundCol → Option ℤ) (t : Term) (n : ℤ) → literal_in t ≡ Some n → value_at cells t ≡ Some n
literal_value cells (Number m) n h = h
literal_value cells (Minus t) n h = minus_value cells t n h
literal_value cells (Column d) n h = absurd cc
literal_value cells (Plus t u) n h = absurd cc
literal_value cells (Apart t u) n h = absurd cc
literal_value cells (Times t u) n h = absurd cc

-- the parts of a test
pub record Parts (op : Cmp) (column : Option BoundCol) (number : Option ℤ) (t : ColumnTest) : Type 0 where
  pub op_is : op ≡ t.op
  pub column_is : column ≡ Some t.col
  pub number_is : number ≡ Some t.number

parts_by : (op : Cmp) (column : Option BoundCol) (number : Option ℤ) (t : ColumnTest) → test_by op column number ≡ Some t → Parts op column number t
parts_by op None number t h = absurd cc
parts_by op (Some c) None t h = absurd cc
parts_by op (Some c) (Some n) t h =
    let e : record { col = c; op = op; number = n } ≡ t = cc in
    record { op_is = ap (λ x. x.op) e; column_is = ap (λ x. Some x.col) e; number_is = ap (λ x. Some x.number) e }

-- a comparison of terms whose parts are these
parts_true : (cells : BoundCol → Option ℤ) (op : Cmp) (t u : Term) (x : ColumnTest) → Parts op (column_in t) (literal_in u) x → compared op (value_at cells t) (value_at cells u) ≡ compared x.op (cells x.col) (Some x.number)
parts_true cells op t u x p = rw (column_value cells t x.col p.column_is, literal_value cells u x.number p.number_is, p.op_is) refl

-- the same with its sides exchanged
parts_mirrored : (cells : BoundCol → Option ℤ) (op : Cmp) (t u : Term) (x : ColumnTest) → Parts (mirrored op) (column_in u) (literal_in t) x → compared op (value_at cells t) (value_at cells u) ≡ compared x.op (cells x.col) (Some x.number)
parts_mirrored cells op t u x p = sym (mirrored_compares op (value_at cells t) (value_at cells u)) ∙ parts_true cells (mirrored op) u t x p

-- one of two is there
either_true : (cells : BoundCol → Option ℤ) (op : Cmp) (t u : Term) (x : ColumnTest) (a b : Option ColumnTest) → test_by op (column_in t) (literal_in u) ≡ a → test_by (mirrored op) (column_in u) (literal_in t) ≡ b → option_or a b ≡ Some x → compared op (value_at cells t) (value_at cells u) ≡ compared x.op (cells x.col) (Some x.number)
either_true cells op t u x None b ha hb h = parts_mirrored cells op t u x (parts_by (mirrored op) (column_in u) (literal_in t) x (hb ∙ h))
either_true cells op t u x (Some a) b ha hb h = parts_true cells op t u x (parts_by op (column_in t) (literal_in u) x (ha ∙ h))

-- a formula that is a test
test_true : (cells : BoundCol → Option ℤ) (at : Point) (f : Formula) (x : ColumnTest) → test_in f ≡ Some x → truth_at cells at f ≡ compared x.op (cells x.col) (Some x.number)
test_true cells at (Compares op t u) x h = either_true cells op t u x _ _ refl refl h
test_true cells at (Among t list) x h = absurd cc
test_true cells at (IsNull t) x h = absurd cc
test_true cells at (LiesIn area) x h = absurd cc
test_true cells at (Not f) x h = absurd cc
test_true cells at (And f g) x h = absurd cc
test_true cells at (Or f g) x h = absurd cc

-- where it is true
compared_passes : (x : ColumnTest) (v : Option ℤ) → is_true (compared x.op v (Some x.number)) ≡ passes x v
compared_passes x None = refl
compared_passes x (Some z) = refl

pub test_is_its_comparison : TestIsItsComparison
test_is_its_comparison c t p h =
    let e = test_true (cell_of p) p.first.at (formula_of c) t h in
    record { truth = e; holds = ap is_true e ∙ compared_passes t (cell_of p t.col) }

-- ---- ranges

-- two bits that are one
same_bits : (a b : Bool) → beq a b ≡ true → a ≡ b
same_bits true true h = refl
same_bits false false h = refl
same_bits true false h = absurd cc
same_bits false true h = absurd cc

same_numbers : (a b : ℕ) → nat_eq a b ≡ true → a ≡ b
same_numbers a b h = grind (arith, h)

one_col_by : (s t : Bool) (j k : ℕ) → s ≡ t → j ≡ k → ◌≡◌ {A = BoundCol} (record { second = s; col = j }) (record { second = t; col = k })
one_col_by s t j k second col = ap {B = BoundCol} (λ x. record { second = x; col = j }) second ∙ ap {B = BoundCol} (λ x. record { second = t; col = x }) col

-- two columns that are one
one_col : (a b : BoundCol) → same_col a b ≡ true → a ≡ b
one_col a b h =
    let two = and_parts (beq a.second b.second) (nat_eq a.col b.col) h in
    one_col_by a.second b.second a.col b.col (same_bits a.second b.second two.0) (same_numbers a.col b.col two.1)

-- the tests that make a range
pub record RangeParts (first second : Option ColumnTest) (r : ColumnRange) : Type 0 where
  pub first_is : first ≡ Some (record { col = r.col; op = AtLeast; number = r.low })
  pub second_is : second ≡ Some (record { col = r.col; op = AtMost; number = r.high })

range_parts_by : (a b : BoundCol) (low high : ℤ) (r : ColumnRange) (same : Bool) → same_col a b ≡ same → (if same then Some (record { col = a; low = low; high = high }) else None) ≡ Some r → RangeParts (Some (record { col = a; op = AtLeast; number = low })) (Some (record { col = b; op = AtMost; number = high })) r
range_parts_by a b low high r false e h = absurd cc
range_parts_by a b low high r true e h =
    let is : ◌≡◌ {A = ColumnRange} (record { col = a; low = low; high = high }) r = cc in
    let one = one_col a b e in
    record {
      first_is = ap {B = Option ColumnTest} (λ x. Some (record { col = x.col; op = AtLeast; number = x.low })) is;
      second_is = ap {B = Option ColumnTest} (λ c. Some (record { col = c; op = AtMost; number = high })) (sym one) ∙ ap {B = Option ColumnTest} (λ x. Some (record { col = x.col; op = AtMost; number = x.high })) is;
    }

range_step : (a b : BoundCol) (p q : Cmp) (low high : ℤ) (r : ColumnRange) → (if is_at_least p && is_at_most q && same_col a b then Some (record { col = a; low = low; high = high }) else None) ≡ Some r → RangeParts (Some (record { col = a; op = p; number = low })) (Some (record { col = b; op = q; number = high })) r
range_step a b AtLeast AtMost low high r h = range_parts_by a b low high r (same_col a b) refl h
range_step a b AtLeast Equal low high r h = absurd cc
range_step a b AtLeast Differs low high r h = absurd cc
range_step a b AtLeast Less low high r h = absurd cc
range_step a b AtLeast More low high r h = absurd cc
range_step a b AtLeast AtLeast low high r h = absurd cc
range_step a b Equal q low high r h = absurd cc
range_step a b Differs q low high r h = absurd cc
range_step a b Less q low high r h = absurd cc
range_step a b AtMost q low high r h = absurd cc
range_step a b More q low high r h = absurd cc

range_parts : (first second : Option ColumnTest) (r : ColumnRange) → range_by first second ≡ Some r → RangeParts first second r
range_parts None b r h = absurd cc
range_parts (Some a) None r h = absurd cc
range_parts (Some a) (Some b) r h = range_step a.col b.col a.op b.op a.number b.number r h

-- the truth of a range, which is two comparisons
both_compared : (cells : BoundCol → Option ℤ) → ColumnRange → Option Bool
both_compared cells r = truth_and (compared AtLeast (cells r.col) (Some r.low)) (compared AtMost (cells r.col) (Some r.high))

and_true : (cells : BoundCol → Option ℤ) (at : Point) (f g : Formula) (r : ColumnRange) → RangeParts (test_in f) (test_in g) r → truth_at cells at (And f g) ≡ both_compared cells r
unfolding both_compared
and_true cells at f g r p =
    rw (test_true cells at f _ p.first_is, test_true cells at g _ p.second_is) refl

both_some : (a b : Bool) → truth_and (Some a) (Some b) ≡ Some (a && b)
both_some true b = refl
both_some false b = refl

-- a band is a range of heights
area_true : (cells : BoundCol → Option ℤ) (at : Point) (area : AreaTest) (r : ColumnRange) → cells height_col ≡ Some at.z → range_of_area area ≡ Some r → Some (area_holds area at) ≡ both_compared cells r
unfolding both_compared
area_true cells at (Cap centre n) r height h = absurd cc
area_true cells at (Boxed lo hi a b) r height h = absurd cc
area_true cells at (Band lo hi) r height h =
    let is : ◌≡◌ {A = ColumnRange} (record { col = height_col; low = lo; high = hi }) r = cc in
    band_true is
  where
    band_true : ◌≡◌ {A = ColumnRange} (record { col = height_col; low = lo; high = hi }) r → Some (area_holds (Band lo hi) at) ≡ truth_and (compared AtLeast (cells r.col) (Some r.low)) (compared AtMost (cells r.col) (Some r.high))
    band_true is = rw (sym is) (rw height (sym (both_some (int_le lo at.z) (int_le at.z hi))))

-- a formula that is a range
range_true : (cells : BoundCol → Option ℤ) (at : Point) (f : Formula) (r : ColumnRange) → cells height_col ≡ Some at.z → range_in f ≡ Some r → truth_at cells at f ≡ both_compared cells r
range_true cells at (LiesIn area) r height h = area_true cells at area r height h
range_true cells at (And f g) r height h = and_true cells at f g r (range_parts (test_in f) (test_in g) r h)
range_true cells at (Compares op t u) r height h = absurd cc
range_true cells at (Among t list) r height h = absurd cc
range_true cells at (IsNull t) r height h = absurd cc
range_true cells at (Not f) r height h = absurd cc
range_true cells at (Or f g) r height h = absurd cc

-- where it is true
range_passes : (r : ColumnRange) (v : Option ℤ) → is_true (truth_and (compared AtLeast v (Some r.low)) (compared AtMost v (Some r.high))) ≡ is_within r v
range_passes r None = refl
range_passes r (Some z) = ap is_true (both_some (int_le r.low z) (int_le z r.high))

pub range_is_two_comparisons : RangeIsTwoComparisons
unfolding both_compared
range_is_two_comparisons c r p h =
    let e = range_true (cell_of p) p.first.at (formula_of c) r refl h in
    record { truth = e; holds = ap is_true e ∙ range_passes r (cell_of p r.col) }

-- ---- absent values

pub absent_fails_test : AbsentFailsTest
absent_fails_test c t p h none =
    let says = test_is_its_comparison c t p h in
    (says.truth ∙ ap (λ v. compared t.op v (Some t.number)) none, says.holds ∙ ap (passes t) none)

pub absent_fails_range : AbsentFailsRange
absent_fails_range c r p h none =
    let says = range_is_two_comparisons c r p h in
    (says.truth ∙ ap (λ v. truth_and (compared AtLeast v (Some r.low)) (compared AtMost v (Some r.high))) none, says.holds ∙ ap (is_within r) none)

-- ---- which conditions are tests and ranges

-- a term that is a column is no number
no_number : (t : Term) (c : BoundCol) → column_in t ≡ Some c → literal_in t ≡ None
no_number (Column d) c h = refl
no_number (Number n) c h = absurd cc
no_number (Minus t) c h = absurd cc
no_number (Plus t u) c h = absurd cc
no_number (Apart t u) c h = absurd cc
no_number (Times t u) c h = absurd cc

-- and a number is no column
no_column : (t : Term) (n : ℤ) → literal_in t ≡ Some n → column_in t ≡ None
no_column (Number m) n h = refl
no_column (Minus t) n h = refl
no_column (Column d) n h = absurd cc
no_column (Plus t u) n h = absurd cc
no_column (Apart t u) n h = absurd cc
no_column (Times t u) n h = absurd cc

terms_column_first : (op : Cmp) (t u : Term) (c : BoundCol) (n : ℤ) → column_in t ≡ Some c → literal_in u ≡ Some n → test_of_terms op t u ≡ Some (record { col = c; op = op; number = n })
terms_column_first op t u c n h k = rw (h, k) refl

terms_number_first : (op : Cmp) (t u : Term) (c : BoundCol) (n : ℤ) → literal_in t ≡ Some n → column_in u ≡ Some c → test_of_terms op t u ≡ Some (record { col = c; op = mirrored op; number = n })
terms_number_first op t u c n h k = rw (no_column t n h, h, k) refl

pub column_first : ColumnFirst
column_first op left right c n h k = simp trees (terms_column_first op (term_of left) (term_of right) c n h k)

pub number_first : NumberFirst
number_first op left right c n h k = simp trees (terms_number_first op (term_of left) (term_of right) c n h k)

same_as_itself : (s : Bool) (k : ℕ) → (beq s s && nat_eq k k) ≡ true
same_as_itself true k = grind arith
same_as_itself false k = grind arith

terms_between : (v low high : Term) (c : BoundCol) (a b : ℤ) → column_in v ≡ Some c → literal_in low ≡ Some a → literal_in high ≡ Some b → range_by (test_of_terms AtMost low v) (test_of_terms AtMost v high) ≡ Some (record { col = c; low = a; high = b })
terms_between v low high c a b h k l =
    rw (terms_number_first AtMost low v c a k h, terms_column_first AtMost v high c b h l, same_as_itself c.second c.col) refl

pub between_is_a_range : BetweenIsARange
between_is_a_range v low high c a b h k l = simp trees (terms_between (term_of v) (term_of low) (term_of high) c a b h k l)

pub brackets_do_not_count : (c : BoundCond) → BracketsDoNotCount c
brackets_do_not_count c = record { test = simp trees refl; range = simp trees refl }

pub box_is_its_band_between_directions : BoxIsItsBandBetweenDirections
box_is_its_band_between_directions lo hi a b p = refl
