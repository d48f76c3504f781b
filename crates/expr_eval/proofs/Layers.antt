-- The term of a tree and the formula of a condition, by the parts of its outermost layer.
use Rattle.std.proofs.Common.{◌≡◌, if◌then◌else◌, map}
use Rattle.sql_bound.specs.declared.expr.BoundAtom.TheFolds.{fold_out-BoundExpr, fold_out-BoundFactor}
use Rattle.sql_bound.specs.declared.expr.BoundAtom.TheFolds.{fold_out-BoundProd, fold_out-BoundSigned}
use Rattle.sql_bound.specs.declared.expr.BoundExpr.{BoundExpr, out-BoundExpr}
use Rattle.sql_bound.specs.declared.expr.BoundFactor.{BoundFactor, out-BoundFactor}
use Rattle.sql_bound.specs.declared.expr.BoundProd.{BoundProd, out-BoundProd}
use Rattle.sql_bound.specs.declared.expr.BoundSigned.{BoundSigned, out-BoundSigned}
use Rattle.sql_bound.specs.declared.cond.BoundAll.{BoundAll, out-BoundAll}
use Rattle.sql_bound.specs.declared.cond.BoundAny.{BoundAny, out-BoundAny}
use Rattle.sql_bound.specs.declared.cond.BoundCond.{BoundCond, out-BoundCond}
use Rattle.sql_bound.specs.declared.cond.BoundPred.TheFolds.{fold_out-BoundAll, fold_out-BoundAny, fold_out-BoundCond}
use Rattle.value_rules.specs.Formulas.{Formula, negated_if, all_from, any_from, at_pred, at_all, at_any, at_cond}
use Rattle.value_rules.specs.Formulas.{formula_of, formula_of_pred, formula_of_all, formula_of_any}
use Rattle.value_rules.specs.Terms.{Term, SignedTerm, Minus, sum_from, product_from, at_atom, at_expr, at_factor}
use Rattle.value_rules.specs.Terms.{at_prod, at_signed, term_of, term_of_atom, term_of_factor, term_of_prod}
use Rattle.value_rules.specs.Terms.{term_of_signed}

-- a sum
pub sum_parts : (e : BoundExpr)
    → term_of e ≡ sum_from (term_of_prod (out-BoundExpr e).first) (map term_of_signed (out-BoundExpr e).rest)
sum_parts e = fold_out-BoundExpr Term Term Term Term SignedTerm at_atom at_expr at_factor at_prod at_signed e

-- a signed product
pub signed_parts : (s : BoundSigned)
    → term_of_signed s ≡ record { minus = (out-BoundSigned s).minus; term = term_of_prod (out-BoundSigned s).prod }
signed_parts s = fold_out-BoundSigned Term Term Term Term SignedTerm at_atom at_expr at_factor at_prod at_signed s

-- a product
pub product_parts : (p : BoundProd)
    → term_of_prod p ≡ product_from (term_of_factor (out-BoundProd p).first)
    (map term_of_factor (out-BoundProd p).rest)
product_parts p = fold_out-BoundProd Term Term Term Term SignedTerm at_atom at_expr at_factor at_prod at_signed p

-- a factor
pub factor_parts : (f : BoundFactor)
    → term_of_factor f ≡ (if (out-BoundFactor f).minus then Minus (term_of_atom (out-BoundFactor f).atom) else
    term_of_atom (out-BoundFactor f).atom)
factor_parts f = fold_out-BoundFactor Term Term Term Term SignedTerm at_atom at_expr at_factor at_prod at_signed f

-- a disjunction
pub any_parts : (a : BoundAny)
    → formula_of_any a ≡ any_from (formula_of_all (out-BoundAny a).first) (map formula_of_all (out-BoundAny a).rest)
any_parts a = fold_out-BoundAny Formula Formula Formula Formula at_pred at_all at_any at_cond a

-- a conjunction
pub all_parts : (a : BoundAll)
    → formula_of_all a ≡ all_from (formula_of (out-BoundAll a).first) (map formula_of (out-BoundAll a).rest)
all_parts a = fold_out-BoundAll Formula Formula Formula Formula at_pred at_all at_any at_cond a

-- a condition
pub cond_parts : (c : BoundCond)
    → formula_of c ≡ negated_if (out-BoundCond c).not (formula_of_pred (out-BoundCond c).pred)
cond_parts c = fold_out-BoundCond Formula Formula Formula Formula at_pred at_all at_any at_cond c
