-- The terms and formulas of small trees: what worked examples are computed by.
use Rattle.std.proofs.Common.{◌≡◌, Bool, if◌then◌else◌, List, map}
use Rattle.sql_bound.specs.Trees.{factor, product, signed, sum, cond_of, all_of, any_of}
use Rattle.sql_bound.specs.declared.expr.BoundAtom.{BoundAtom}
use Rattle.sql_bound.specs.declared.expr.BoundFactor.{BoundFactor}
use Rattle.sql_bound.specs.declared.expr.BoundProd.{BoundProd}
use Rattle.sql_bound.specs.declared.expr.BoundSigned.{BoundSigned}
use Rattle.sql_bound.specs.declared.cond.BoundAll.{BoundAll}
use Rattle.sql_bound.specs.declared.cond.BoundCond.{BoundCond}
use Rattle.sql_bound.specs.declared.cond.BoundPred.{BoundPred}
use Rattle.value_rules.specs.Terms.{Minus, sum_from, product_from, term_of, term_of_atom, term_of_factor, term_of_prod, term_of_signed}
use Rattle.value_rules.specs.Formulas.{negated_if, all_from, any_from, formula_of, formula_of_pred, formula_of_all, formula_of_any}
use Rattle.value_rules.proofs.Parts.{term_int, term_col, term_bracket, term_factor_roll, term_prod_roll, term_signed_roll, term_expr_roll, formula_bracket, formula_compare, formula_between, formula_among, formula_null, formula_area, formula_cond_roll, formula_all_roll, formula_any_roll}

pub term_factor : (minus : Bool) (a : BoundAtom) → term_of_factor (factor minus a) ≡ (if minus then Minus (term_of_atom a) else term_of_atom a)
unfolding factor
term_factor minus a = term_factor_roll (record { minus = minus; atom = a })

pub term_product : (f : BoundFactor) (fs : List BoundFactor) → term_of_prod (product f fs) ≡ product_from (term_of_factor f) (map term_of_factor fs)
unfolding product
term_product f fs = term_prod_roll (record { first = f; rest = fs })

pub term_signed : (minus : Bool) (p : BoundProd) → term_of_signed (signed minus p) ≡ record { minus = minus; term = term_of_prod p }
unfolding signed
term_signed minus p = term_signed_roll (record { minus = minus; prod = p })

pub term_sum : (p : BoundProd) (ps : List BoundSigned) → term_of (sum p ps) ≡ sum_from (term_of_prod p) (map term_of_signed ps)
unfolding sum
term_sum p ps = term_expr_roll (record { first = p; rest = ps })

pub formula_cond : (negated : Bool) (p : BoundPred) → formula_of (cond_of negated p) ≡ negated_if negated (formula_of_pred p)
unfolding cond_of
formula_cond negated p = formula_cond_roll (record { not = negated; pred = p })

pub formula_all : (c : BoundCond) (cs : List BoundCond) → formula_of_all (all_of c cs) ≡ all_from (formula_of c) (map formula_of cs)
unfolding all_of
formula_all c cs = formula_all_roll (record { first = c; rest = cs })

pub formula_any : (a : BoundAll) (rest : List BoundAll) → formula_of_any (any_of a rest) ≡ any_from (formula_of_all a) (map formula_of_all rest)
unfolding any_of
formula_any a rest = formula_any_roll (record { first = a; rest = rest })

-- the equations that compute small trees
pub ruleset trees = (term_int, term_col, term_bracket, term_factor, term_product, term_signed, term_sum, formula_bracket, formula_compare, formula_between, formula_among, formula_null, formula_area, formula_cond, formula_all, formula_any)
