-- How a tree is printed, part by part; and the parts from some place on.
use Rattle.std.proofs.Common.{codes, ◌≡◌, ℤ, Bool, [], ◌++◌, map, refl, ap, ◌∙◌, append_assoc}
use Rattle.std.specs.Fmt.{signed_decimal}
use Rattle.std.specs.Prelude.{if◌then◌else◌}
use Rattle.sql_tree.specs.declared.cond.Cmp.{Cmp}
use Rattle.sql_tree.specs.declared.cond.Cond.{Cond, out-Cond}
use Rattle.sql_tree.specs.declared.cond.Conj.{Conj, out-Conj}
use Rattle.sql_tree.specs.declared.cond.IntList.{IntList}
use Rattle.sql_tree.specs.declared.cond.Neg.{Neg, out-Neg}
use Rattle.sql_tree.specs.declared.cond.Pred.TheVariants as pred
use Rattle.sql_tree.specs.declared.cond.Pred.TheFolds.{fold_out-Cond, fold_out-Conj, fold_out-Neg}
use Rattle.sql_tree.specs.declared.expr.Atom.TheFolds.{fold_out-Expr, fold_out-Factor, fold_out-Prod, fold_out-Signed}
use Rattle.sql_tree.specs.declared.expr.Expr.{Expr, out-Expr}
use Rattle.sql_tree.specs.declared.expr.Factor.{Factor, out-Factor}
use Rattle.sql_tree.specs.declared.expr.Prod.{Prod, out-Prod}
use Rattle.sql_tree.specs.declared.expr.Signed.{Signed, out-Signed}
use Rattle.sql_tree.specs.declared.name.Name.{Name}
use Rattle.sql_tree.specs.declared.query.Query.{Query}
use Rattle.sql_rules.proofs.PrintOpened.{print_compare_pred, print_between_pred, print_among_pred, print_null_pred, print_chord_pred}
use Rattle.sql_rules.specs.Printed.{print_items, print_table, print_second, print_where, print_group, print_order}
use Rattle.sql_rules.specs.Printed.{print_limit, printed}
use Rattle.sql_rules.specs.PrintedConds.{print_cmp, print_ints}
use Rattle.sql_rules.specs.PrintedConds.{print_pred_step, print_cond_step}
use Rattle.sql_rules.specs.PrintedConds.{print_conj_step, print_neg_step, print_cond, print_conj, print_neg}
use Rattle.sql_rules.specs.PrintedConds.{print_pred}
use Rattle.sql_rules.specs.PrintedExprs.{Bytes, text_if, behind_each, in_brackets, print_atom_step}
use Rattle.sql_rules.specs.PrintedExprs.{print_expr_step, print_factor_step, print_prod_step, print_signed_step}
use Rattle.sql_rules.specs.PrintedExprs.{print_atom, print_expr, print_factor, print_prod, print_signed}
use Rattle.sql_rules.specs.SpellingConds.{chord_op}
use Rattle.sql_print.specs.Clauses.{from_first, from_group, from_items, from_order, from_second, from_where}

-- ---- expressions

pub expr_parts : (e : Expr) → print_expr e ≡ print_prod (out-Expr e).first ++ behind_each [] (map print_signed (out-Expr e).rest)
unfolding print_atom print_expr print_factor print_prod print_signed
expr_parts e = fold_out-Expr Bytes Bytes Bytes Bytes Bytes print_atom_step print_expr_step print_factor_step print_prod_step print_signed_step e

pub prod_parts : (p : Prod) → print_prod p ≡ print_factor (out-Prod p).first ++ behind_each (codes "*") (map print_factor (out-Prod p).rest)
unfolding print_atom print_expr print_factor print_prod print_signed
prod_parts p = fold_out-Prod Bytes Bytes Bytes Bytes Bytes print_atom_step print_expr_step print_factor_step print_prod_step print_signed_step p

pub signed_parts : (s : Signed) → print_signed s ≡ (if (out-Signed s).minus then codes "-" else codes "+") ++ print_prod (out-Signed s).prod
unfolding print_atom print_expr print_factor print_prod print_signed
signed_parts s = fold_out-Signed Bytes Bytes Bytes Bytes Bytes print_atom_step print_expr_step print_factor_step print_prod_step print_signed_step s

pub factor_parts : (f : Factor) → print_factor f ≡ text_if (out-Factor f).minus (codes "-") ++ print_atom (out-Factor f).atom
unfolding print_atom print_expr print_factor print_prod print_signed
factor_parts f = fold_out-Factor Bytes Bytes Bytes Bytes Bytes print_atom_step print_expr_step print_factor_step print_prod_step print_signed_step f

-- ---- conditions

pub cond_parts : (c : Cond) → print_cond c ≡ print_conj (out-Cond c).first ++ behind_each (codes " OR ") (map print_conj (out-Cond c).rest)
unfolding print_pred print_cond print_conj print_neg
cond_parts c = fold_out-Cond Bytes Bytes Bytes Bytes print_pred_step print_cond_step print_conj_step print_neg_step c

pub conj_parts : (c : Conj) → print_conj c ≡ print_neg (out-Conj c).first ++ behind_each (codes " AND ") (map print_neg (out-Conj c).rest)
unfolding print_pred print_cond print_conj print_neg
conj_parts c = fold_out-Conj Bytes Bytes Bytes Bytes print_pred_step print_cond_step print_conj_step print_neg_step c

pub neg_parts : (n : Neg) → print_neg n ≡ text_if (out-Neg n).not (codes "NOT ") ++ print_pred (out-Neg n).pred
unfolding print_pred print_cond print_conj print_neg
neg_parts n = fold_out-Neg Bytes Bytes Bytes Bytes print_pred_step print_cond_step print_conj_step print_neg_step n

-- ---- predicates, each part before the rest

four : (a b c d : Bytes) → ((a ++ b) ++ c) ++ d ≡ a ++ (b ++ (c ++ d))
four a b c d = simp append_assoc refl

six : (a b c d e f : Bytes) → ((((a ++ b) ++ c) ++ d) ++ e) ++ f ≡ a ++ (b ++ (c ++ (d ++ (e ++ f))))
six a b c d e f = simp append_assoc refl

pub compare_pred : (left : Expr) (op : Cmp) (right : Expr) → print_pred (pred.Compare left op right) ≡ print_expr left ++ (print_cmp op ++ print_expr right)
compare_pred left op right = print_compare_pred left op right ∙ append_assoc (print_expr left) (print_cmp op) (print_expr right)

pub between_pred : (without : Bool) (value low high : Expr) → print_pred (pred.Between without value low high) ≡ print_expr value ++ (text_if without (codes " NOT") ++ (codes " BETWEEN " ++ (print_expr low ++ (codes " AND " ++ print_expr high))))
between_pred without value low high = print_between_pred without value low high ∙ six (print_expr value) (text_if without (codes " NOT")) (codes " BETWEEN ") (print_expr low) (codes " AND ") (print_expr high)

pub among_pred : (without : Bool) (value : Expr) (list : IntList) → print_pred (pred.Among without value list) ≡ print_expr value ++ (text_if without (codes " NOT") ++ (codes " IN " ++ print_ints list))
among_pred without value list = print_among_pred without value list ∙ four (print_expr value) (text_if without (codes " NOT")) (codes " IN ") (print_ints list)

pub null_pred : (without : Bool) (value : Expr) → print_pred (pred.IsNull without value) ≡ print_expr value ++ (codes " IS" ++ (text_if without (codes " NOT") ++ codes " NULL"))
null_pred without value = print_null_pred without value ∙ four (print_expr value) (codes " IS") (text_if without (codes " NOT")) (codes " NULL")

pub chord_pred : (left right : Name) (strict : Bool) (n : ℤ) → print_pred (pred.Chord left right strict n) ≡ codes "chord2" ++ (in_brackets (left.text ++ (codes "," ++ right.text)) ++ (print_cmp (chord_op strict) ++ signed_decimal n))
chord_pred left right strict n =
    print_chord_pred left right strict n
    ∙ four (codes "chord2") (in_brackets ((left.text ++ codes ",") ++ right.text)) (print_cmp (chord_op strict)) (signed_decimal n)
    ∙ ap (λ t. codes "chord2" ++ (in_brackets t ++ (print_cmp (chord_op strict) ++ signed_decimal n))) (append_assoc left.text (codes ",") right.text)

-- ---- a query, each clause before the rest

nine : (a b c d e f g h i : Bytes) → (((((((a ++ b) ++ c) ++ d) ++ e) ++ f) ++ g) ++ h) ++ i ≡ a ++ (b ++ (c ++ (d ++ (e ++ (f ++ (g ++ (h ++ i)))))))
nine a b c d e f g h i = simp append_assoc refl

pub printed_parts : (q : Query) → printed q ≡ codes "SELECT " ++ from_items q
unfolding printed from_items from_first from_second from_where from_group from_order
printed_parts q = nine (codes "SELECT ") (print_items q.items) (codes " FROM ") (print_table q.first) (print_second q.second) (print_where q.cond) (print_group q.group) (print_order q.order) (print_limit q.limit)
