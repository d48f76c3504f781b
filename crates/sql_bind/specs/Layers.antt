-- The parts of an expression and of a condition, bound.
use Rattle.std.specs.Prelude.{false, List, Option, option_to_list}
use Rattle.std.specs.List.{flat_map}
use Rattle.sql_bound.specs.declared.query.BoundItem.{BoundItem}
use Rattle.sql_tree.specs.declared.query.Item.{Item}
use Rattle.bind_rules.specs.Binding.{item_by}
use Rattle.sql_bound.specs.declared.expr.BoundAtom.{BoundAtom}
use Rattle.sql_bound.specs.declared.expr.BoundExpr.{BoundExpr}
use Rattle.sql_bound.specs.declared.expr.BoundFactor.{BoundFactor}
use Rattle.sql_bound.specs.declared.expr.BoundProd.{BoundProd}
use Rattle.sql_bound.specs.declared.expr.BoundSigned.{BoundSigned}
use Rattle.sql_bound.specs.declared.cond.BoundCond.{BoundCond}
use Rattle.sql_bound.specs.declared.cond.BoundPred.{BoundPred}
use Rattle.sql_tree.specs.declared.cond.Cond.{Cond}
use Rattle.sql_tree.specs.declared.cond.Conj.{Conj}
use Rattle.sql_tree.specs.declared.cond.Neg.{Neg}
use Rattle.sql_tree.specs.declared.cond.Pred.{Pred}
use Rattle.sql_tree.specs.declared.expr.Atom.{Atom}
use Rattle.bind_rules.specs.Conjuncts.{conjuncts, conjuncts_of_conj, conjuncts_of_neg, conjuncts_of_pred}
use Rattle.bind_rules.specs.Wholes.{bound_conjunct, neg_by}
use Rattle.sql_tree.specs.declared.expr.Atom.TheFolds.{fold-Atom, fold-Factor, fold-Prod, fold-Signed}
use Rattle.sql_tree.specs.declared.expr.Factor.{Factor}
use Rattle.sql_tree.specs.declared.expr.Prod.{Prod}
use Rattle.sql_tree.specs.declared.expr.Signed.{Signed}
use Rattle.bind_rules.specs.Bounds.{Meaning, atom_by, bound_expr_step, bound_factor_step, bound_prod_step, bound_signed_step}

-- the bound atom
unfoldable pub bound_atom : Meaning → Atom → BoundAtom
bound_atom means =
    fold-Atom BoundAtom BoundExpr BoundFactor BoundProd BoundSigned (atom_by means) bound_expr_step
    bound_factor_step bound_prod_step bound_signed_step

-- the bound factor
unfoldable pub bound_factor : Meaning → Factor → BoundFactor
bound_factor means =
    fold-Factor BoundAtom BoundExpr BoundFactor BoundProd BoundSigned (atom_by means) bound_expr_step
    bound_factor_step bound_prod_step bound_signed_step

-- the bound product
unfoldable pub bound_prod : Meaning → Prod → BoundProd
bound_prod means =
    fold-Prod BoundAtom BoundExpr BoundFactor BoundProd BoundSigned (atom_by means) bound_expr_step
    bound_factor_step bound_prod_step bound_signed_step

-- the bound product with its sign
unfoldable pub bound_signed : Meaning → Signed → BoundSigned
bound_signed means =
    fold-Signed BoundAtom BoundExpr BoundFactor BoundProd BoundSigned (atom_by means) bound_expr_step
    bound_factor_step bound_prod_step bound_signed_step

-- a bound predicate as a condition
abbrev pub as_cond : Option BoundPred → List BoundCond
as_cond p = option_to_list (neg_by false p)

-- the bound conjuncts of a condition
abbrev pub conds_of_cond : Meaning → Cond → List BoundCond
conds_of_cond means c = flat_map (bound_conjunct means) (conjuncts c)

-- the bound conjuncts of a conjunction
abbrev pub conds_of_conj : Meaning → Conj → List BoundCond
conds_of_conj means c = flat_map (bound_conjunct means) (conjuncts_of_conj c)

-- the bound conjuncts of a predicate with or without NOT
abbrev pub conds_of_neg : Meaning → Neg → List BoundCond
conds_of_neg means n = flat_map (bound_conjunct means) (conjuncts_of_neg n)

-- the bound conjuncts of a predicate
abbrev pub conds_of_pred : Meaning → Pred → List BoundCond
conds_of_pred means p = flat_map (bound_conjunct means) (conjuncts_of_pred p)

-- the bound item, without its alias
abbrev pub item_in : Meaning → Item → BoundItem
item_in means i = item_by means i.what
