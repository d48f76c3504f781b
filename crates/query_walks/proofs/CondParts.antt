-- The expressions of the parts of a condition.
use Rattle.std.proofs.Common.{◌≡◌, ℤ, Bool, [], ◌∷◌, ◌++◌, map}
use Rattle.sql_token.specs.declared.token.Span.{Span}
use Rattle.sql_tree.specs.declared.cond.AreaKind.{AreaKind}
use Rattle.sql_tree.specs.declared.cond.Cmp.{Cmp}
use Rattle.sql_tree.specs.declared.cond.Cond.{Cond, out-Cond}
use Rattle.sql_tree.specs.declared.cond.Conj.{Conj, out-Conj}
use Rattle.sql_tree.specs.declared.cond.IntList.{IntList}
use Rattle.sql_tree.specs.declared.cond.Neg.{Neg, out-Neg}
use Rattle.sql_tree.specs.declared.cond.Pred.TheFolds.{fold_out-Cond, fold_out-Conj, fold_out-Neg}
use Rattle.sql_tree.specs.declared.cond.Pred.TheVariants as pred
use Rattle.sql_tree.specs.declared.expr.Expr.{Expr}
use Rattle.sql_tree.specs.declared.name.Name.{Name}
use Rattle.text_rules.specs.Readings.{joined}
use Rattle.bind_rules.specs.Widths.{Exprs, exprs_at_pred, exprs_of}
use Rattle.bind_rules.proofs.Folds.{fold_group, fold_compare, fold_between, fold_among, fold_null, fold_area, fold_chord}
use Rattle.query_walks.specs.Parts.{conj_exprs, neg_exprs, pred_exprs}

-- ---- the expressions of a condition

pub cond_exprs_parts : (c : Cond)
    → exprs_of c ≡ conj_exprs (out-Cond c).first ++ joined (map conj_exprs (out-Cond c).rest)
unfolding exprs_of conj_exprs neg_exprs pred_exprs
cond_exprs_parts c =
    fold_out-Cond Exprs Exprs Exprs Exprs exprs_at_pred (λ c. c.first ++ joined c.rest)
    (λ c. c.first ++ joined c.rest) (λ n. n.pred) c

pub conj_exprs_parts : (c : Conj)
    → conj_exprs c ≡ neg_exprs (out-Conj c).first ++ joined (map neg_exprs (out-Conj c).rest)
unfolding exprs_of conj_exprs neg_exprs pred_exprs
conj_exprs_parts c =
    fold_out-Conj Exprs Exprs Exprs Exprs exprs_at_pred (λ c. c.first ++ joined c.rest)
    (λ c. c.first ++ joined c.rest) (λ n. n.pred) c

pub neg_exprs_parts : (n : Neg) → neg_exprs n ≡ pred_exprs (out-Neg n).pred
unfolding exprs_of conj_exprs neg_exprs pred_exprs
neg_exprs_parts n =
    fold_out-Neg Exprs Exprs Exprs Exprs exprs_at_pred (λ c. c.first ++ joined c.rest)
    (λ c. c.first ++ joined c.rest) (λ n. n.pred) n

pub group_exprs : (c : Cond) → pred_exprs (pred.Bracket c) ≡ exprs_of c
unfolding exprs_of conj_exprs neg_exprs pred_exprs
group_exprs c = fold_group exprs_at_pred (λ c. c.first ++ joined c.rest) (λ c. c.first ++ joined c.rest) (λ n. n.pred) c

pub compare_exprs : (left : Expr) (op : Cmp) (right : Expr)
    → pred_exprs (pred.Compare left op right) ≡ left ∷ right ∷ []
unfolding exprs_of conj_exprs neg_exprs pred_exprs
compare_exprs left op right =
    fold_compare exprs_at_pred (λ c. c.first ++ joined c.rest) (λ c. c.first ++ joined c.rest) (λ n. n.pred) left op
    right

pub between_exprs : (without : Bool) (value low high : Expr)
    → pred_exprs (pred.Between without value low high) ≡ value ∷ low ∷ high ∷ []
unfolding exprs_of conj_exprs neg_exprs pred_exprs
between_exprs without value low high =
    fold_between exprs_at_pred (λ c. c.first ++ joined c.rest) (λ c. c.first ++ joined c.rest) (λ n. n.pred) without
    value low high

pub among_exprs : (without : Bool) (value : Expr) (list : IntList)
    → pred_exprs (pred.Among without value list) ≡ value ∷ []
unfolding exprs_of conj_exprs neg_exprs pred_exprs
among_exprs without value list =
    fold_among exprs_at_pred (λ c. c.first ++ joined c.rest) (λ c. c.first ++ joined c.rest) (λ n. n.pred) without
    value list

pub null_exprs : (without : Bool) (value : Expr) → pred_exprs (pred.IsNull without value) ≡ value ∷ []
unfolding exprs_of conj_exprs neg_exprs pred_exprs
null_exprs without value =
    fold_null exprs_at_pred (λ c. c.first ++ joined c.rest) (λ c. c.first ++ joined c.rest) (λ n. n.pred) without
    value

pub area_exprs : (kind : AreaKind) (span : Span) (args : IntList) → pred_exprs (pred.Area kind span args) ≡ []
unfolding exprs_of conj_exprs neg_exprs pred_exprs
area_exprs kind span args =
    fold_area exprs_at_pred (λ c. c.first ++ joined c.rest) (λ c. c.first ++ joined c.rest) (λ n. n.pred) kind span
    args

pub chord_exprs : (left right : Name) (strict : Bool) (n : ℤ) → pred_exprs (pred.Chord left right strict n) ≡ []
unfolding exprs_of conj_exprs neg_exprs pred_exprs
chord_exprs left right strict n =
    fold_chord exprs_at_pred (λ c. c.first ++ joined c.rest) (λ c. c.first ++ joined c.rest) (λ n. n.pred) left right
    strict n
