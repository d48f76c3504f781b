-- An expression and its parts, bound layer by layer.
use Rattle.std.proofs.Common.{◌≡◌, ℤ, map}
use Rattle.sql_bound.specs.declared.expr.BoundAtom.{BoundAtom}
use Rattle.sql_bound.specs.declared.expr.BoundAtom.TheVariants as batom
use Rattle.sql_bound.specs.declared.expr.BoundExpr.{BoundExpr, roll-BoundExpr}
use Rattle.sql_bound.specs.declared.expr.BoundFactor.{BoundFactor, roll-BoundFactor}
use Rattle.sql_bound.specs.declared.expr.BoundProd.{BoundProd, roll-BoundProd}
use Rattle.sql_bound.specs.declared.expr.BoundSigned.{BoundSigned, roll-BoundSigned}
use Rattle.sql_tree.specs.declared.expr.Atom.TheFolds.{fold_out-Expr, fold_out-Factor, fold_out-Prod, fold_out-Signed}
use Rattle.sql_tree.specs.declared.expr.Atom.TheVariants as atom
use Rattle.sql_tree.specs.declared.expr.Expr.{Expr, out-Expr}
use Rattle.sql_tree.specs.declared.expr.Factor.{Factor, out-Factor}
use Rattle.sql_tree.specs.declared.expr.Prod.{Prod, out-Prod}
use Rattle.sql_tree.specs.declared.expr.Signed.{Signed, out-Signed}
use Rattle.sql_tree.specs.declared.name.Col.{Col}
use Rattle.bind_rules.specs.Bounds.{Meaning, atom_by, expr_by, bound_expr_step, bound_factor_step, bound_prod_step, bound_signed_step}
use Rattle.bind_rules.proofs.Folds.{fold_int, fold_col, fold_bracket}
use Rattle.sql_bind.specs.Layers.{bound_atom, bound_factor, bound_prod, bound_signed}

pub expr_parts : (means : Meaning) (e : Expr) → expr_by means e ≡ roll-BoundExpr (record { first = bound_prod means (out-Expr e).first; rest = map (bound_signed means) (out-Expr e).rest })
unfolding expr_by bound_prod bound_signed
expr_parts means e = fold_out-Expr BoundAtom BoundExpr BoundFactor BoundProd BoundSigned (atom_by means) bound_expr_step bound_factor_step bound_prod_step bound_signed_step e

pub prod_parts : (means : Meaning) (p : Prod) → bound_prod means p ≡ roll-BoundProd (record { first = bound_factor means (out-Prod p).first; rest = map (bound_factor means) (out-Prod p).rest })
unfolding bound_prod bound_factor
prod_parts means p = fold_out-Prod BoundAtom BoundExpr BoundFactor BoundProd BoundSigned (atom_by means) bound_expr_step bound_factor_step bound_prod_step bound_signed_step p

pub signed_parts : (means : Meaning) (p : Signed) → bound_signed means p ≡ roll-BoundSigned (record { minus = (out-Signed p).minus; prod = bound_prod means (out-Signed p).prod })
unfolding bound_signed bound_prod
signed_parts means p = fold_out-Signed BoundAtom BoundExpr BoundFactor BoundProd BoundSigned (atom_by means) bound_expr_step bound_factor_step bound_prod_step bound_signed_step p

pub factor_parts : (means : Meaning) (f : Factor) → bound_factor means f ≡ roll-BoundFactor (record { minus = (out-Factor f).minus; atom = bound_atom means (out-Factor f).atom })
unfolding bound_factor bound_atom
factor_parts means f = fold_out-Factor BoundAtom BoundExpr BoundFactor BoundProd BoundSigned (atom_by means) bound_expr_step bound_factor_step bound_prod_step bound_signed_step f

pub int_atom : (means : Meaning) (n : ℤ) → bound_atom means (atom.Int n) ≡ batom.Int n
unfolding bound_atom
int_atom means n = fold_int (atom_by means) bound_expr_step bound_factor_step bound_prod_step bound_signed_step n

pub col_atom : (means : Meaning) (c : Col) → bound_atom means (atom.Col c) ≡ batom.Col (means c)
unfolding bound_atom
col_atom means c = fold_col (atom_by means) bound_expr_step bound_factor_step bound_prod_step bound_signed_step c

pub bracket_atom : (means : Meaning) (e : Expr) → bound_atom means (atom.Bracket e) ≡ batom.Bracket (expr_by means e)
unfolding bound_atom expr_by
bracket_atom means e = fold_bracket (atom_by means) bound_expr_step bound_factor_step bound_prod_step bound_signed_step e
