-- The truth of a condition on a row or on a pair of rows: true, false, or None for unknown.
use Rattle.std.specs.Prelude.{ℤ, int_le, int_lt, Bool, true, false, not, List, Option, None, Some, option_map, is_none}
use Rattle.std.specs.List.{list_any, list_all}
use Rattle.std.specs.Ordering.{int_eq}
use Rattle.sky_vector.specs.Points.{Point}
use Rattle.sql_tree.specs.declared.cond.Cmp.{Cmp}
use Rattle.sql_tree.specs.declared.cond.Cmp.TheVariants.{Equal, Differs, Less, AtMost, More, AtLeast}
use Rattle.sql_bound.specs.declared.cond.BoundCond.{BoundCond}
use Rattle.sql_bound.specs.declared.expr.BoundCol.{BoundCol}
use Rattle.value_rules.specs.Areas.{area_holds}
use Rattle.value_rules.specs.Formulas.{Formula, Compares, Among, IsNull, LiesIn, Not, And, Or, formula_of}
use Rattle.value_rules.specs.Values.{Pick, cell_of, value_at}

-- the operator holds of the two numbers
abbrev pub compares : Cmp → ℤ → ℤ → Bool
compares Equal a b = int_eq a b
compares Differs a b = not (int_eq a b)
compares Less a b = int_lt a b
compares AtMost a b = int_le a b
compares More a b = int_lt b a
compares AtLeast a b = int_le b a

-- the truth of a comparison, unknown if a side is NULL
abbrev pub compared : Cmp → Option ℤ → Option ℤ → Option Bool
compared op None b = None
compared op (Some a) None = None
compared op (Some a) (Some b) = Some (compares op a b)

-- the number is in the list
abbrev pub is_one_of : List ℤ → ℤ → Bool
is_one_of list a = list_any (λ n. int_eq n a) list

-- the truth of IN, unknown if the value is NULL
abbrev pub among : Option ℤ → List ℤ → Option Bool
among value list = option_map (is_one_of list) value

-- NOT exchanges true and false and keeps unknown
abbrev pub truth_not : Option Bool → Option Bool
truth_not = option_map not

-- AND is false if a part is false, else unknown if a part is unknown, else true
abbrev pub truth_and : Option Bool → Option Bool → Option Bool
truth_and (Some false) b = Some false
truth_and (Some true) b = b
truth_and None (Some false) = Some false
truth_and None (Some true) = None
truth_and None None = None

-- OR is true if a part is true, else unknown if a part is unknown, else false
abbrev pub truth_or : Option Bool → Option Bool → Option Bool
truth_or (Some true) b = Some true
truth_or (Some false) b = b
truth_or None (Some true) = Some true
truth_or None (Some false) = None
truth_or None None = None

-- the truth of a formula, if the columns have these values and the first row is at this point
abbrev pub truth_at : (BoundCol → Option ℤ) → Point → Formula → Option Bool
truth_at cells at (Compares op t u) = compared op (value_at cells t) (value_at cells u)
truth_at cells at (Among t list) = among (value_at cells t) list
truth_at cells at (IsNull t) = Some (is_none (value_at cells t))
truth_at cells at (LiesIn area) = Some (area_holds area at)
truth_at cells at (Not f) = truth_not (truth_at cells at f)
truth_at cells at (And f g) = truth_and (truth_at cells at f) (truth_at cells at g)
truth_at cells at (Or f g) = truth_or (truth_at cells at f) (truth_at cells at g)

-- the truth of a condition on a row or a pair; an area test is about the first row
abbrev pub truth_of : BoundCond → Pick → Option Bool
truth_of c p = truth_at (cell_of p) p.first.at (formula_of c)

-- the truth is true, and not unknown
abbrev pub is_true : Option Bool → Bool
is_true None = false
is_true (Some b) = b

-- the condition holds: its truth is true
abbrev pub holds : BoundCond → Pick → Bool
holds c p = is_true (truth_of c p)

-- the row or pair meets all of the conditions
abbrev pub meets : List BoundCond → Pick → Bool
meets conds p = list_all (λ c. holds c p) conds
