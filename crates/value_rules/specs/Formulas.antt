-- Conditions as formulas: a bound condition without its brackets, over terms.
use Rattle.std.specs.Prelude.{ℤ, List, [], ◌∷◌, Bool, if◌then◌else◌}
use Rattle.sql_bound.specs.declared.area.AreaTest.{AreaTest}
use Rattle.sql_tree.specs.declared.cond.Cmp.{Cmp}
use Rattle.sql_tree.specs.declared.cond.Cmp.TheVariants.{AtMost}
use Rattle.sql_bound.specs.declared.cond.BoundAll.{BoundAll}
use Rattle.sql_bound.specs.declared.cond.BoundAny.{BoundAny}
use Rattle.sql_bound.specs.declared.cond.BoundCond.{BoundCond}
use Rattle.sql_bound.specs.declared.cond.BoundPred.{BoundPred}
use Rattle.sql_bound.specs.declared.cond.BoundPred.TheOpen.{BoundAll-F, BoundAny-F, BoundCond-F, BoundPred-F}
use Rattle.sql_bound.specs.declared.cond.BoundPred.TheFolds.{fold-BoundAll, fold-BoundAny}
use Rattle.sql_bound.specs.declared.cond.BoundPred.TheFolds.{fold-BoundCond, fold-BoundPred}
use Rattle.value_rules.specs.Terms.{Term, term_of}

-- A formula: a test of terms or of the sky, or a logical combination of formulas.
pub data Formula : Type 0 where
  Compares : Cmp → Term → Term → Formula
  Among : Term → List ℤ → Formula
  IsNull : Term → Formula
  LiesIn : AreaTest → Formula
  Not : Formula → Formula
  And : Formula → Formula → Formula
  Or : Formula → Formula → Formula

-- the formula, or its negation if `negated` is true
abbrev pub negated_if : Bool → Formula → Formula
negated_if negated f = if negated then Not f else f

-- the conjunction of a formula and those that follow it, from the left
abbrev pub all_from : Formula → List Formula → Formula
all_from f [] = f
all_from f (g ∷ rest) = all_from (And f g) rest

-- the disjunction of a formula and those that follow it, from the left
abbrev pub any_from : Formula → List Formula → Formula
any_from f [] = f
any_from f (g ∷ rest) = any_from (Or f g) rest

-- the formula of a predicate: a comparison and an area test are themselves; BETWEEN is two comparisons; brackets are
-- left out
abbrev pub at_pred : BoundPred-F Formula Formula Formula Formula → Formula
at_pred (BoundPred-F.Bracket f) = f
at_pred (BoundPred-F.Compare left op right) = Compares op (term_of left) (term_of right)
at_pred (BoundPred-F.Between negated value low high) =
    negated_if negated
    (And (Compares AtMost (term_of low) (term_of value)) (Compares AtMost (term_of value) (term_of high)))
at_pred (BoundPred-F.Among negated value list) = negated_if negated (Among (term_of value) list)
at_pred (BoundPred-F.IsNull negated value) = negated_if negated (IsNull (term_of value))
at_pred (BoundPred-F.Area test) = LiesIn test

-- the formula of a condition: that of its predicate, negated if it has NOT
abbrev pub at_cond : BoundCond-F Formula Formula Formula Formula → Formula
at_cond c = negated_if c.not c.pred

-- the formula of a conjunction, from its first condition on
abbrev pub at_all : BoundAll-F Formula Formula Formula Formula → Formula
at_all a = all_from a.first a.rest

-- the formula of a disjunction, from its first conjunction on
abbrev pub at_any : BoundAny-F Formula Formula Formula Formula → Formula
at_any a = any_from a.first a.rest

-- the formula of a condition
abbrev pub formula_of : BoundCond → Formula
formula_of = fold-BoundCond Formula Formula Formula Formula at_pred at_all at_any at_cond

-- the formula of a predicate
abbrev pub formula_of_pred : BoundPred → Formula
formula_of_pred = fold-BoundPred Formula Formula Formula Formula at_pred at_all at_any at_cond

-- the formula of a conjunction
abbrev pub formula_of_all : BoundAll → Formula
formula_of_all = fold-BoundAll Formula Formula Formula Formula at_pred at_all at_any at_cond

-- the formula of a disjunction
abbrev pub formula_of_any : BoundAny → Formula
formula_of_any = fold-BoundAny Formula Formula Formula Formula at_pred at_all at_any at_cond
