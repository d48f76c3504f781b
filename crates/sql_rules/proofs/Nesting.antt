-- How many brackets of a tree stand in one another.
use Rattle.std.proofs.Common.{ℕ, suc, List, [], ◌∷◌, max}
use Rattle.sql_tree.specs.declared.cond.Cond.{Cond}
use Rattle.sql_tree.specs.declared.cond.Conj.{Conj}
use Rattle.sql_tree.specs.declared.cond.Neg.{Neg}
use Rattle.sql_tree.specs.declared.cond.Pred.{Pred}
use Rattle.sql_tree.specs.declared.cond.Pred.TheFolds.{fold-Cond, fold-Conj, fold-Neg, fold-Pred}
use Rattle.sql_tree.specs.declared.cond.Pred.TheOpen.{Cond-F, Conj-F, Neg-F, Pred-F}
use Rattle.sql_tree.specs.declared.expr.Atom.{Atom}
use Rattle.sql_tree.specs.declared.expr.Atom.TheFolds.{fold-Atom, fold-Expr, fold-Factor, fold-Prod, fold-Signed}
use Rattle.sql_tree.specs.declared.expr.Atom.TheOpen.{Atom-F, Expr-F, Factor-F, Prod-F, Signed-F}
use Rattle.sql_tree.specs.declared.expr.Expr.{Expr}
use Rattle.sql_tree.specs.declared.expr.Factor.{Factor}
use Rattle.sql_tree.specs.declared.expr.Prod.{Prod}
use Rattle.sql_tree.specs.declared.expr.Signed.{Signed}

abbrev pub most : List ℕ → ℕ
most [] = 0
most (n ∷ ns) = max n (most ns)

abbrev pub depth_atom : Atom-F ℕ ℕ ℕ ℕ ℕ → ℕ
depth_atom (Atom-F.Int n) = 0
depth_atom (Atom-F.Col c) = 0
depth_atom (Atom-F.Bracket e) = suc e

abbrev pub depth_expr : Expr-F ℕ ℕ ℕ ℕ ℕ → ℕ
depth_expr e = max e.first (most e.rest)

abbrev pub depth_factor : Factor-F ℕ ℕ ℕ ℕ ℕ → ℕ
depth_factor f = f.atom

abbrev pub depth_prod : Prod-F ℕ ℕ ℕ ℕ ℕ → ℕ
depth_prod p = max p.first (most p.rest)

abbrev pub depth_signed : Signed-F ℕ ℕ ℕ ℕ ℕ → ℕ
depth_signed s = s.prod

abbrev pub nest_atom : Atom → ℕ
nest_atom = fold-Atom ℕ ℕ ℕ ℕ ℕ depth_atom depth_expr depth_factor depth_prod depth_signed

abbrev pub nest_expr : Expr → ℕ
nest_expr = fold-Expr ℕ ℕ ℕ ℕ ℕ depth_atom depth_expr depth_factor depth_prod depth_signed

abbrev pub nest_factor : Factor → ℕ
nest_factor = fold-Factor ℕ ℕ ℕ ℕ ℕ depth_atom depth_expr depth_factor depth_prod depth_signed

abbrev pub nest_prod : Prod → ℕ
nest_prod = fold-Prod ℕ ℕ ℕ ℕ ℕ depth_atom depth_expr depth_factor depth_prod depth_signed

abbrev pub nest_signed : Signed → ℕ
nest_signed = fold-Signed ℕ ℕ ℕ ℕ ℕ depth_atom depth_expr depth_factor depth_prod depth_signed

abbrev pub depth_pred : Pred-F ℕ ℕ ℕ ℕ → ℕ
depth_pred (Pred-F.Bracket c) = suc c
depth_pred (Pred-F.Compare left op right) = max (nest_expr left) (nest_expr right)
depth_pred (Pred-F.Between without value low high) = max (nest_expr value) (max (nest_expr low) (nest_expr high))
depth_pred (Pred-F.Among without value list) = nest_expr value
depth_pred (Pred-F.IsNull without value) = nest_expr value
depth_pred (Pred-F.Area area span args) = 0
depth_pred (Pred-F.Chord left right strict n) = 0

abbrev pub depth_cond : Cond-F ℕ ℕ ℕ ℕ → ℕ
depth_cond c = max c.first (most c.rest)

abbrev pub depth_conj : Conj-F ℕ ℕ ℕ ℕ → ℕ
depth_conj c = max c.first (most c.rest)

abbrev pub depth_neg : Neg-F ℕ ℕ ℕ ℕ → ℕ
depth_neg n = n.pred

abbrev pub nest_pred : Pred → ℕ
nest_pred = fold-Pred ℕ ℕ ℕ ℕ depth_pred depth_cond depth_conj depth_neg

abbrev pub nest_cond : Cond → ℕ
nest_cond = fold-Cond ℕ ℕ ℕ ℕ depth_pred depth_cond depth_conj depth_neg

abbrev pub nest_conj : Conj → ℕ
nest_conj = fold-Conj ℕ ℕ ℕ ℕ depth_pred depth_cond depth_conj depth_neg

abbrev pub nest_neg : Neg → ℕ
nest_neg = fold-Neg ℕ ℕ ℕ ℕ depth_pred depth_cond depth_conj depth_neg
