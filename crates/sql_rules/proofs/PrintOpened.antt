-- How a tree that is made of its parts is printed.
use Rattle.std.proofs.Common.{codes, ◌≡◌, ℤ, [], ◌++◌, map, sym, ap, ◌∙◌, Bool}
use Rattle.std.specs.Fmt.{signed_decimal}
use Rattle.std.specs.Prelude.{if◌then◌else◌}
use Rattle.sql_token.specs.declared.token.Span.{Span}
use Rattle.sql_tree.specs.declared.cond.AreaKind.{AreaKind}
use Rattle.sql_tree.specs.declared.cond.Cmp.{Cmp}
use Rattle.sql_tree.specs.declared.cond.Cond.{Cond, roll-Cond}
use Rattle.sql_tree.specs.declared.cond.Conj.{Conj, roll-Conj}
use Rattle.sql_tree.specs.declared.cond.IntList.{IntList}
use Rattle.sql_tree.specs.declared.cond.Neg.{Neg, roll-Neg}
use Rattle.sql_tree.specs.declared.cond.Pred.{Pred}
use Rattle.sql_tree.specs.declared.cond.Pred.TheFolds.{fold-roll-Cond, fold-roll-Conj, fold-roll-Neg, fold-roll-Pred}
use Rattle.sql_tree.specs.declared.cond.Pred.TheOpen.{Cond-F, Conj-F, Neg-F, Pred-F}
use Rattle.sql_tree.specs.declared.expr.Atom.{Atom}
use Rattle.sql_tree.specs.declared.expr.Atom.TheFolds.{fold-roll-Atom, fold-roll-Expr, fold-roll-Factor}
use Rattle.sql_tree.specs.declared.expr.Atom.TheFolds.{fold-roll-Prod, fold-roll-Signed}
use Rattle.sql_tree.specs.declared.expr.Atom.TheOpen.{Atom-F, Expr-F, Factor-F, Prod-F, Signed-F}
use Rattle.sql_tree.specs.declared.expr.Expr.{Expr, roll-Expr}
use Rattle.sql_tree.specs.declared.expr.Factor.{Factor, roll-Factor}
use Rattle.sql_tree.specs.declared.expr.Prod.{Prod, roll-Prod}
use Rattle.sql_tree.specs.declared.expr.Signed.{Signed, roll-Signed}
use Rattle.sql_tree.specs.declared.name.Col.{Col}
use Rattle.sql_tree.specs.declared.name.Name.{Name}
use Rattle.sql_rules.specs.PrintedConds.{print_ints, print_cmp, print_area, print_pred_step, print_cond_step}
use Rattle.sql_rules.specs.PrintedConds.{print_conj_step, print_neg_step, print_cond, print_conj, print_neg}
use Rattle.sql_rules.specs.PrintedConds.{print_pred}
use Rattle.sql_rules.specs.PrintedExprs.{Bytes, text_if, behind_each, in_brackets, print_col, print_atom_step}
use Rattle.sql_rules.specs.PrintedExprs.{print_expr_step, print_factor_step, print_prod_step, print_signed_step}
use Rattle.sql_rules.specs.PrintedExprs.{print_atom, print_expr, print_factor, print_prod, print_signed}
use Rattle.sql_rules.specs.SpellingConds.{chord_op}
use Rattle.sql_tree.specs.declared.expr.Atom.TheVariants as atom
use Rattle.sql_tree.specs.declared.cond.Pred.TheVariants as pred

pub print_int_atom : (n : ℤ) → print_atom (atom.Int n) ≡ signed_decimal n
unfolding print_atom print_expr
print_int_atom n = ap print_atom (sym (atom.rolls-Int n)) ∙ fold-roll-Atom Bytes Bytes Bytes Bytes Bytes print_atom_step print_expr_step print_factor_step print_prod_step print_signed_step (Atom-F.Int n)

pub print_col_atom : (c : Col) → print_atom (atom.Col c) ≡ print_col c
unfolding print_atom print_expr
print_col_atom c = ap print_atom (sym (atom.rolls-Col c)) ∙ fold-roll-Atom Bytes Bytes Bytes Bytes Bytes print_atom_step print_expr_step print_factor_step print_prod_step print_signed_step (Atom-F.Col c)

pub print_bracket_atom : (e : Expr) → print_atom (atom.Bracket e) ≡ in_brackets (print_expr e)
unfolding print_atom print_expr
print_bracket_atom e = ap print_atom (sym (atom.rolls-Bracket e)) ∙ fold-roll-Atom Bytes Bytes Bytes Bytes Bytes print_atom_step print_expr_step print_factor_step print_prod_step print_signed_step (Atom-F.Bracket e)

pub print_factor_roll : (x : Factor-F Atom Expr Factor Prod Signed) → print_factor (roll-Factor x) ≡ text_if x.minus (codes "-") ++ print_atom x.atom
unfolding print_atom print_expr print_factor print_prod print_signed
print_factor_roll x = fold-roll-Factor Bytes Bytes Bytes Bytes Bytes print_atom_step print_expr_step print_factor_step print_prod_step print_signed_step x

pub print_prod_roll : (x : Prod-F Atom Expr Factor Prod Signed) → print_prod (roll-Prod x) ≡ print_factor x.first ++ behind_each (codes "*") (map print_factor x.rest)
unfolding print_atom print_expr print_factor print_prod print_signed
print_prod_roll x = fold-roll-Prod Bytes Bytes Bytes Bytes Bytes print_atom_step print_expr_step print_factor_step print_prod_step print_signed_step x

pub print_signed_roll : (x : Signed-F Atom Expr Factor Prod Signed) → print_signed (roll-Signed x) ≡ (if x.minus then codes "-" else codes "+") ++ print_prod x.prod
unfolding print_atom print_expr print_factor print_prod print_signed
print_signed_roll x = fold-roll-Signed Bytes Bytes Bytes Bytes Bytes print_atom_step print_expr_step print_factor_step print_prod_step print_signed_step x

pub print_expr_roll : (x : Expr-F Atom Expr Factor Prod Signed) → print_expr (roll-Expr x) ≡ print_prod x.first ++ behind_each [] (map print_signed x.rest)
unfolding print_atom print_expr print_factor print_prod print_signed
print_expr_roll x = fold-roll-Expr Bytes Bytes Bytes Bytes Bytes print_atom_step print_expr_step print_factor_step print_prod_step print_signed_step x

pub print_bracket_pred : (c : Cond) → print_pred (pred.Bracket c) ≡ in_brackets (print_cond c)
unfolding print_pred print_cond
print_bracket_pred c = ap print_pred (sym (pred.rolls-Bracket c)) ∙ fold-roll-Pred Bytes Bytes Bytes Bytes print_pred_step print_cond_step print_conj_step print_neg_step (Pred-F.Bracket c)

pub print_compare_pred : (left : Expr) (op : Cmp) (right : Expr) → print_pred (pred.Compare left op right) ≡ print_expr left ++ print_cmp op ++ print_expr right
unfolding print_pred print_cond
print_compare_pred left op right = ap print_pred (sym (pred.rolls-Compare left op right)) ∙ fold-roll-Pred Bytes Bytes Bytes Bytes print_pred_step print_cond_step print_conj_step print_neg_step (Pred-F.Compare left op right)

pub print_between_pred : (without : Bool) (value low high : Expr) → print_pred (pred.Between without value low high) ≡ print_expr value ++ text_if without (codes " NOT") ++ codes " BETWEEN " ++ print_expr low ++ codes " AND " ++ print_expr high
unfolding print_pred print_cond
print_between_pred without value low high = ap print_pred (sym (pred.rolls-Between without value low high)) ∙ fold-roll-Pred Bytes Bytes Bytes Bytes print_pred_step print_cond_step print_conj_step print_neg_step (Pred-F.Between without value low high)

pub print_among_pred : (without : Bool) (value : Expr) (list : IntList) → print_pred (pred.Among without value list) ≡ print_expr value ++ text_if without (codes " NOT") ++ codes " IN " ++ print_ints list
unfolding print_pred print_cond
print_among_pred without value list = ap print_pred (sym (pred.rolls-Among without value list)) ∙ fold-roll-Pred Bytes Bytes Bytes Bytes print_pred_step print_cond_step print_conj_step print_neg_step (Pred-F.Among without value list)

pub print_null_pred : (without : Bool) (value : Expr) → print_pred (pred.IsNull without value) ≡ print_expr value ++ codes " IS" ++ text_if without (codes " NOT") ++ codes " NULL"
unfolding print_pred print_cond
print_null_pred without value = ap print_pred (sym (pred.rolls-IsNull without value)) ∙ fold-roll-Pred Bytes Bytes Bytes Bytes print_pred_step print_cond_step print_conj_step print_neg_step (Pred-F.IsNull without value)

pub print_area_pred : (area : AreaKind) (span : Span) (args : IntList) → print_pred (pred.Area area span args) ≡ print_area area ++ print_ints args
unfolding print_pred print_cond
print_area_pred area span args = ap print_pred (sym (pred.rolls-Area area span args)) ∙ fold-roll-Pred Bytes Bytes Bytes Bytes print_pred_step print_cond_step print_conj_step print_neg_step (Pred-F.Area area span args)

pub print_chord_pred : (left right : Name) (strict : Bool) (n : ℤ) → print_pred (pred.Chord left right strict n) ≡ codes "chord2" ++ in_brackets (left.text ++ codes "," ++ right.text) ++ print_cmp (chord_op strict) ++ signed_decimal n
unfolding print_pred print_cond
print_chord_pred left right strict n = ap print_pred (sym (pred.rolls-Chord left right strict n)) ∙ fold-roll-Pred Bytes Bytes Bytes Bytes print_pred_step print_cond_step print_conj_step print_neg_step (Pred-F.Chord left right strict n)

pub print_neg_roll : (x : Neg-F Pred Cond Conj Neg) → print_neg (roll-Neg x) ≡ text_if x.not (codes "NOT ") ++ print_pred x.pred
unfolding print_pred print_cond print_conj print_neg
print_neg_roll x = fold-roll-Neg Bytes Bytes Bytes Bytes print_pred_step print_cond_step print_conj_step print_neg_step x

pub print_conj_roll : (x : Conj-F Pred Cond Conj Neg) → print_conj (roll-Conj x) ≡ print_neg x.first ++ behind_each (codes " AND ") (map print_neg x.rest)
unfolding print_pred print_cond print_conj print_neg
print_conj_roll x = fold-roll-Conj Bytes Bytes Bytes Bytes print_pred_step print_cond_step print_conj_step print_neg_step x

pub print_cond_roll : (x : Cond-F Pred Cond Conj Neg) → print_cond (roll-Cond x) ≡ print_conj x.first ++ behind_each (codes " OR ") (map print_conj x.rest)
unfolding print_pred print_cond print_conj print_neg
print_cond_roll x = fold-roll-Cond Bytes Bytes Bytes Bytes print_pred_step print_cond_step print_conj_step print_neg_step x
