-- The term of an expression that is made of its parts, and the formula of a condition.
use Rattle.std.proofs.Common.{◌≡◌, ℤ, Bool, if◌then◌else◌, List, map, sym, ap, ◌∙◌}
use Rattle.sql_bound.specs.declared.area.AreaTest.{AreaTest}
use Rattle.sql_tree.specs.declared.cond.Cmp.{Cmp}
use Rattle.sql_tree.specs.declared.cond.Cmp.TheVariants.{AtMost}
use Rattle.sql_bound.specs.declared.expr.BoundCol.{BoundCol}
use Rattle.sql_bound.specs.declared.expr.BoundAtom.{BoundAtom}
use Rattle.sql_bound.specs.declared.expr.BoundAtom.TheVariants as atom
use Rattle.sql_bound.specs.declared.expr.BoundExpr.{BoundExpr, roll-BoundExpr}
use Rattle.sql_bound.specs.declared.expr.BoundFactor.{BoundFactor, roll-BoundFactor}
use Rattle.sql_bound.specs.declared.expr.BoundProd.{BoundProd, roll-BoundProd}
use Rattle.sql_bound.specs.declared.expr.BoundSigned.{BoundSigned, roll-BoundSigned}
use Rattle.sql_bound.specs.declared.expr.BoundAtom.TheOpen.{BoundAtom-F, BoundExpr-F, BoundFactor-F, BoundProd-F, BoundSigned-F}
use Rattle.sql_bound.specs.declared.expr.BoundAtom.TheFolds.{fold-roll-BoundAtom, fold-roll-BoundExpr, fold-roll-BoundFactor, fold-roll-BoundProd, fold-roll-BoundSigned}
use Rattle.sql_bound.specs.declared.cond.BoundAll.{BoundAll, roll-BoundAll}
use Rattle.sql_bound.specs.declared.cond.BoundAny.{BoundAny, roll-BoundAny}
use Rattle.sql_bound.specs.declared.cond.BoundCond.{BoundCond, roll-BoundCond}
use Rattle.sql_bound.specs.declared.cond.BoundPred.{BoundPred}
use Rattle.sql_bound.specs.declared.cond.BoundPred.TheVariants as pred
use Rattle.sql_bound.specs.declared.cond.BoundPred.TheOpen.{BoundAll-F, BoundAny-F, BoundCond-F, BoundPred-F}
use Rattle.sql_bound.specs.declared.cond.BoundPred.TheFolds.{fold-roll-BoundAll, fold-roll-BoundAny, fold-roll-BoundCond, fold-roll-BoundPred}
use Rattle.value_rules.specs.Terms.{Term, SignedTerm, Number, Column, Minus, sum_from, product_from, at_atom, at_expr, at_factor, at_prod, at_signed, term_of, term_of_atom, term_of_factor, term_of_prod, term_of_signed}
use Rattle.value_rules.specs.Formulas.{Formula, Compares, Among, IsNull, LiesIn, And, negated_if, all_from, any_from, at_pred, at_all, at_any, at_cond, formula_of, formula_of_pred, formula_of_all, formula_of_any}

pub term_int : (n : ℤ) → term_of_atom (atom.Int n) ≡ Number n
term_int n = ap term_of_atom (sym (atom.rolls-Int n)) ∙ fold-roll-BoundAtom Term Term Term Term SignedTerm at_atom at_expr at_factor at_prod at_signed (BoundAtom-F.Int n)

pub term_col : (c : BoundCol) → term_of_atom (atom.Col c) ≡ Column c
term_col c = ap term_of_atom (sym (atom.rolls-Col c)) ∙ fold-roll-BoundAtom Term Term Term Term SignedTerm at_atom at_expr at_factor at_prod at_signed (BoundAtom-F.Col c)

pub term_bracket : (e : BoundExpr) → term_of_atom (atom.Bracket e) ≡ term_of e
term_bracket e = ap term_of_atom (sym (atom.rolls-Bracket e)) ∙ fold-roll-BoundAtom Term Term Term Term SignedTerm at_atom at_expr at_factor at_prod at_signed (BoundAtom-F.Bracket e)

pub term_factor_roll : (x : BoundFactor-F BoundAtom BoundExpr BoundFactor BoundProd BoundSigned) → term_of_factor (roll-BoundFactor x) ≡ (if x.minus then Minus (term_of_atom x.atom) else term_of_atom x.atom)
term_factor_roll x = fold-roll-BoundFactor Term Term Term Term SignedTerm at_atom at_expr at_factor at_prod at_signed x

pub term_prod_roll : (x : BoundProd-F BoundAtom BoundExpr BoundFactor BoundProd BoundSigned) → term_of_prod (roll-BoundProd x) ≡ product_from (term_of_factor x.first) (map term_of_factor x.rest)
term_prod_roll x = fold-roll-BoundProd Term Term Term Term SignedTerm at_atom at_expr at_factor at_prod at_signed x

pub term_signed_roll : (x : BoundSigned-F BoundAtom BoundExpr BoundFactor BoundProd BoundSigned) → term_of_signed (roll-BoundSigned x) ≡ record { minus = x.minus; term = term_of_prod x.prod }
term_signed_roll x = fold-roll-BoundSigned Term Term Term Term SignedTerm at_atom at_expr at_factor at_prod at_signed x

pub term_expr_roll : (x : BoundExpr-F BoundAtom BoundExpr BoundFactor BoundProd BoundSigned) → term_of (roll-BoundExpr x) ≡ sum_from (term_of_prod x.first) (map term_of_signed x.rest)
term_expr_roll x = fold-roll-BoundExpr Term Term Term Term SignedTerm at_atom at_expr at_factor at_prod at_signed x

-- ---- conditions

pub formula_bracket : (a : BoundAny) → formula_of_pred (pred.Bracket a) ≡ formula_of_any a
formula_bracket a = ap formula_of_pred (sym (pred.rolls-Bracket a)) ∙ fold-roll-BoundPred Formula Formula Formula Formula at_pred at_all at_any at_cond (BoundPred-F.Bracket a)

pub formula_compare : (left : BoundExpr) (op : Cmp) (right : BoundExpr) → formula_of_pred (pred.Compare left op right) ≡ Compares op (term_of left) (term_of right)
formula_compare left op right = ap formula_of_pred (sym (pred.rolls-Compare left op right)) ∙ fold-roll-BoundPred Formula Formula Formula Formula at_pred at_all at_any at_cond (BoundPred-F.Compare left op right)

pub formula_between : (negated : Bool) (value low high : BoundExpr) → formula_of_pred (pred.Between negated value low high) ≡ negated_if negated (And (Compares AtMost (term_of low) (term_of value)) (Compares AtMost (term_of value) (term_of high)))
formula_between negated value low high = ap formula_of_pred (sym (pred.rolls-Between negated value low high)) ∙ fold-roll-BoundPred Formula Formula Formula Formula at_pred at_all at_any at_cond (BoundPred-F.Between negated value low high)

pub formula_among : (negated : Bool) (value : BoundExpr) (list : List ℤ) → formula_of_pred (pred.Among negated value list) ≡ negated_if negated (Among (term_of value) list)
formula_among negated value list = ap formula_of_pred (sym (pred.rolls-Among negated value list)) ∙ fold-roll-BoundPred Formula Formula Formula Formula at_pred at_all at_any at_cond (BoundPred-F.Among negated value list)

pub formula_null : (negated : Bool) (value : BoundExpr) → formula_of_pred (pred.IsNull negated value) ≡ negated_if negated (IsNull (term_of value))
formula_null negated value = ap formula_of_pred (sym (pred.rolls-IsNull negated value)) ∙ fold-roll-BoundPred Formula Formula Formula Formula at_pred at_all at_any at_cond (BoundPred-F.IsNull negated value)

pub formula_area : (test : AreaTest) → formula_of_pred (pred.Area test) ≡ LiesIn test
formula_area test = ap formula_of_pred (sym (pred.rolls-Area test)) ∙ fold-roll-BoundPred Formula Formula Formula Formula at_pred at_all at_any at_cond (BoundPred-F.Area test)

pub formula_cond_roll : (x : BoundCond-F BoundPred BoundAll BoundAny BoundCond) → formula_of (roll-BoundCond x) ≡ negated_if x.not (formula_of_pred x.pred)
formula_cond_roll x = fold-roll-BoundCond Formula Formula Formula Formula at_pred at_all at_any at_cond x

pub formula_all_roll : (x : BoundAll-F BoundPred BoundAll BoundAny BoundCond) → formula_of_all (roll-BoundAll x) ≡ all_from (formula_of x.first) (map formula_of x.rest)
formula_all_roll x = fold-roll-BoundAll Formula Formula Formula Formula at_pred at_all at_any at_cond x

pub formula_any_roll : (x : BoundAny-F BoundPred BoundAll BoundAny BoundCond) → formula_of_any (roll-BoundAny x) ≡ any_from (formula_of_all x.first) (map formula_of_all x.rest)
formula_any_roll x = fold-roll-BoundAny Formula Formula Formula Formula at_pred at_all at_any at_cond x
