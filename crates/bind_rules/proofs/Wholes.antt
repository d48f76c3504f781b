-- A bound condition that is made of its parts.
use Rattle.std.proofs.Common.{◌≡◌, ℤ, Bool, map, Option, Some, None, sym, ap, ◌∙◌}
use Rattle.sql_token.specs.declared.token.Span.{Span}
use Rattle.sql_bound.specs.declared.cond.BoundAll.{BoundAll}
use Rattle.sql_bound.specs.declared.cond.BoundAny.{BoundAny}
use Rattle.sql_bound.specs.declared.cond.BoundCond.{BoundCond}
use Rattle.sql_bound.specs.declared.cond.BoundPred.{BoundPred}
use Rattle.sql_bound.specs.declared.cond.BoundPred.TheVariants as bound
use Rattle.sql_tree.specs.declared.cond.AreaKind.{AreaKind}
use Rattle.sql_tree.specs.declared.cond.Cmp.{Cmp}
use Rattle.sql_tree.specs.declared.cond.Cond.{Cond, out-Cond, roll-Cond}
use Rattle.sql_tree.specs.declared.cond.Conj.{Conj, out-Conj, roll-Conj}
use Rattle.sql_tree.specs.declared.cond.IntList.{IntList}
use Rattle.sql_tree.specs.declared.cond.Neg.{Neg, out-Neg, roll-Neg}
use Rattle.sql_tree.specs.declared.cond.Pred.{Pred}
use Rattle.sql_tree.specs.declared.cond.Pred.TheFolds.{fold-roll-Cond, fold-roll-Conj, fold-roll-Neg, fold_out-Cond, fold_out-Conj, fold_out-Neg}
use Rattle.sql_tree.specs.declared.cond.Pred.TheOpen.{Cond-F, Conj-F, Neg-F}
use Rattle.sql_tree.specs.declared.cond.Pred.TheVariants as pred
use Rattle.sql_tree.specs.declared.expr.Expr.{Expr}
use Rattle.sql_tree.specs.declared.name.Name.{Name}
use Rattle.bind_rules.specs.Areas.{area_test}
use Rattle.bind_rules.specs.Bounds.{Meaning, expr_by}
use Rattle.bind_rules.specs.Forms.{values_of}
use Rattle.bind_rules.specs.Wholes.{area_pred, bracket, all_there, conj_by, any_by, neg_by, bound_at_pred, bound_at_cond, bound_at_conj, bound_at_neg, bound_pred, bound_any, bound_all, bound_cond}
use Rattle.bind_rules.proofs.Folds.{fold_group, fold_compare, fold_between, fold_among, fold_null, fold_area, fold_chord}

pub bound_group : (means : Meaning) (c : Cond) → bound_pred means (pred.Bracket c) ≡ bracket (bound_any means c)
unfolding bound_pred bound_any
bound_group means c = fold_group (bound_at_pred means) bound_at_cond bound_at_conj bound_at_neg c

pub bound_compare : (means : Meaning) (left : Expr) (op : Cmp) (right : Expr) → bound_pred means (pred.Compare left op right) ≡ Some (bound.Compare (expr_by means left) op (expr_by means right))
unfolding bound_pred
bound_compare means left op right = fold_compare (bound_at_pred means) bound_at_cond bound_at_conj bound_at_neg left op right

pub bound_between : (means : Meaning) (without : Bool) (value low high : Expr) → bound_pred means (pred.Between without value low high) ≡ Some (bound.Between without (expr_by means value) (expr_by means low) (expr_by means high))
unfolding bound_pred
bound_between means without value low high = fold_between (bound_at_pred means) bound_at_cond bound_at_conj bound_at_neg without value low high

pub bound_among : (means : Meaning) (without : Bool) (value : Expr) (list : IntList) → bound_pred means (pred.Among without value list) ≡ Some (bound.Among without (expr_by means value) (values_of list))
unfolding bound_pred
bound_among means without value list = fold_among (bound_at_pred means) bound_at_cond bound_at_conj bound_at_neg without value list

pub bound_null : (means : Meaning) (without : Bool) (value : Expr) → bound_pred means (pred.IsNull without value) ≡ Some (bound.IsNull without (expr_by means value))
unfolding bound_pred
bound_null means without value = fold_null (bound_at_pred means) bound_at_cond bound_at_conj bound_at_neg without value

pub bound_area : (means : Meaning) (kind : AreaKind) (span : Span) (args : IntList) → bound_pred means (pred.Area kind span args) ≡ area_pred (area_test kind (values_of args))
unfolding bound_pred
bound_area means kind span args = fold_area (bound_at_pred means) bound_at_cond bound_at_conj bound_at_neg kind span args

pub bound_chord : (means : Meaning) (left right : Name) (strict : Bool) (n : ℤ) → bound_pred means (pred.Chord left right strict n) ≡ None
unfolding bound_pred
bound_chord means left right strict n = fold_chord (bound_at_pred means) bound_at_cond bound_at_conj bound_at_neg left right strict n

-- ---- layers

pub bound_neg_roll : (means : Meaning) (x : Neg-F Pred Cond Conj Neg) → bound_cond means (roll-Neg x) ≡ neg_by x.not (bound_pred means x.pred)
unfolding bound_cond bound_pred
bound_neg_roll means x = fold-roll-Neg (Option BoundPred) (Option BoundAny) (Option BoundAll) (Option BoundCond) (bound_at_pred means) bound_at_cond bound_at_conj bound_at_neg x

pub bound_conj_roll : (means : Meaning) (x : Conj-F Pred Cond Conj Neg) → bound_all means (roll-Conj x) ≡ conj_by (bound_cond means x.first) (all_there (map (bound_cond means) x.rest))
unfolding bound_all bound_cond
bound_conj_roll means x = fold-roll-Conj (Option BoundPred) (Option BoundAny) (Option BoundAll) (Option BoundCond) (bound_at_pred means) bound_at_cond bound_at_conj bound_at_neg x

pub bound_cond_roll : (means : Meaning) (x : Cond-F Pred Cond Conj Neg) → bound_any means (roll-Cond x) ≡ any_by (bound_all means x.first) (all_there (map (bound_all means) x.rest))
unfolding bound_any bound_all
bound_cond_roll means x = fold-roll-Cond (Option BoundPred) (Option BoundAny) (Option BoundAll) (Option BoundCond) (bound_at_pred means) bound_at_cond bound_at_conj bound_at_neg x

-- the same of conditions that are opened
pub bound_neg_out : (means : Meaning) (n : Neg) → bound_cond means n ≡ neg_by (out-Neg n).not (bound_pred means (out-Neg n).pred)
unfolding bound_cond bound_pred
bound_neg_out means n = fold_out-Neg (Option BoundPred) (Option BoundAny) (Option BoundAll) (Option BoundCond) (bound_at_pred means) bound_at_cond bound_at_conj bound_at_neg n

pub bound_conj_out : (means : Meaning) (c : Conj) → bound_all means c ≡ conj_by (bound_cond means (out-Conj c).first) (all_there (map (bound_cond means) (out-Conj c).rest))
unfolding bound_all bound_cond
bound_conj_out means c = fold_out-Conj (Option BoundPred) (Option BoundAny) (Option BoundAll) (Option BoundCond) (bound_at_pred means) bound_at_cond bound_at_conj bound_at_neg c

pub bound_cond_out : (means : Meaning) (c : Cond) → bound_any means c ≡ any_by (bound_all means (out-Cond c).first) (all_there (map (bound_all means) (out-Cond c).rest))
unfolding bound_any bound_all
bound_cond_out means c = fold_out-Cond (Option BoundPred) (Option BoundAny) (Option BoundAll) (Option BoundCond) (bound_at_pred means) bound_at_cond bound_at_conj bound_at_neg c
