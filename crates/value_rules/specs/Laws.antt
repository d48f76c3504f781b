-- Lemmas about values and truth.
use Rattle.std.specs.Prelude.{◌≡◌, ℕ, ℤ, nat_abs, Bool, true, false, List, Option, None, Some}
use Rattle.table_rules.specs.Objects.{Obj, IsRow, cell, column_bound}
use Rattle.sql_bound.specs.declared.cond.BoundPred.{BoundPred}
use Rattle.sql_bound.specs.declared.cond.BoundPred.TheVariants as pred
use Rattle.sql_tree.specs.declared.cond.Cmp.TheVariants.{AtMost}
use Rattle.sql_bound.specs.declared.expr.BoundCol.{BoundCol}
use Rattle.sql_bound.specs.declared.expr.BoundExpr.{BoundExpr}
use Rattle.sql_bound.specs.declared.query.Bound.{Bound}
use Rattle.sql_bound.specs.Trees.{cond_of, both}
use Rattle.value_rules.specs.Ranges.{IsInRange}
use Rattle.value_rules.specs.Sound.{IsSound, is_sound_expr}
use Rattle.value_rules.specs.Truth.{truth_of, truth_not, truth_and, truth_or}
use Rattle.value_rules.specs.Values.{Pick, row, pair, cell_of, value_of}
use Rattle.value_rules.specs.Widths.{IsOfSize, width_of, most}

-- the values of a row or a pair are within the bounds of their columns
abbrev pub IsWithinBounds : Pick → Type 0
IsWithinBounds p = (c : BoundCol) → IsOfSize (nat_abs (column_bound c.col)) (cell_of p c)

-- the value of an expression is NULL or within its width
abbrev pub ValueIsWithin : Type 0
ValueIsWithin = (e : BoundExpr) (p : Pick) → IsWithinBounds p → IsOfSize (width_of e) (value_of e p)

-- the values of a row within its limits are within the bounds of their columns
abbrev pub CellIsWithin : Type 0
CellIsWithin = (o : Obj) (col : ℕ) → IsRow o → IsOfSize (nat_abs (column_bound col)) (cell o col)

-- the values of a single row within its limits are within the bounds of their columns
abbrev pub RowIsWithin : Type 0
RowIsWithin = (o : Obj) → IsRow o → IsWithinBounds (row o)

-- the values of a pair of rows within their limits are within the bounds of their columns
abbrev pub PairIsWithin : Type 0
PairIsWithin = (u v : Obj) → IsRow u → IsRow v → IsWithinBounds (pair u v)

-- the value of an expression that is not too wide is NULL or within ±2^100
abbrev pub SoundValueIsInRange : Type 0
SoundValueIsInRange =
    (allowed : BoundCol → Bool) (e : BoundExpr) (p : Pick) → is_sound_expr allowed e ≡ true → IsWithinBounds p
    → IsOfSize most (value_of e p)

-- each number that an item or a condition of a query computes is within ±2^100, if the query can be run
abbrev pub SoundIsInRange : Type 0
SoundIsInRange = (columns : ℕ) (q : Bound) (p : Pick) → IsSound columns q → IsWithinBounds p → IsInRange q p

-- NOT BETWEEN is the negation of BETWEEN
abbrev pub NotBetween : Type 0
NotBetween =
    (p : Pick) (v low high : BoundExpr)
    → truth_of (cond_of false (pred.Between true v low high)) p
    ≡ truth_not (truth_of (cond_of false (pred.Between false v low high)) p)

-- NOT IN is the negation of IN
abbrev pub NotAmong : Type 0
NotAmong =
    (p : Pick) (v : BoundExpr) (list : List ℤ)
    → truth_of (cond_of false (pred.Among true v list)) p
    ≡ truth_not (truth_of (cond_of false (pred.Among false v list)) p)

-- IS NOT NULL is the negation of IS NULL
abbrev pub IsNotNull : Type 0
IsNotNull =
    (p : Pick) (v : BoundExpr)
    → truth_of (cond_of false (pred.IsNull true v)) p
    ≡ truth_not (truth_of (cond_of false (pred.IsNull false v)) p)

-- NOT before a predicate is its negation
abbrev pub NotIsNegation : Type 0
NotIsNegation =
    (p : Pick) (test : BoundPred) → truth_of (cond_of true test) p ≡ truth_not (truth_of (cond_of false test) p)

-- v BETWEEN low AND high is low <= v AND v <= high
abbrev pub BetweenIsTwoComparisons : Type 0
BetweenIsTwoComparisons =
    (p : Pick) (v low high : BoundExpr)
    → truth_of (cond_of false (pred.Between false v low high)) p
    ≡ truth_of (both (cond_of false (pred.Compare low AtMost v)) (cond_of false (pred.Compare v AtMost high))) p

-- The conjunction of two parts: false if a part is false, else unknown if a part is unknown, else true.
pub record AndTable : Type 0 where
  pub false_first : (b : Option Bool) → truth_and (Some false) b ≡ Some false
  pub false_second : (a : Option Bool) → truth_and a (Some false) ≡ Some false
  pub unknown_first : truth_and None (Some true) ≡ None
  pub unknown_second : truth_and (Some true) None ≡ None
  pub unknown_both : truth_and None None ≡ None
  pub true_both : truth_and (Some true) (Some true) ≡ Some true

-- The disjunction of two parts: true if a part is true, else unknown if a part is unknown, else false.
pub record OrTable : Type 0 where
  pub true_first : (b : Option Bool) → truth_or (Some true) b ≡ Some true
  pub true_second : (a : Option Bool) → truth_or a (Some true) ≡ Some true
  pub unknown_first : truth_or None (Some false) ≡ None
  pub unknown_second : truth_or (Some false) None ≡ None
  pub unknown_both : truth_or None None ≡ None
  pub false_both : truth_or (Some false) (Some false) ≡ Some false

-- NOT exchanges true and false and keeps unknown
pub record NotTable : Type 0 where
  pub of_true : truth_not (Some true) ≡ Some false
  pub of_false : truth_not (Some false) ≡ Some true
  pub of_unknown : truth_not None ≡ None
