-- What a condition mentions, and its expressions, part by part.
use Rattle.std.proofs.Common.{◌≡◌, ℤ, Bool, [], ◌∷◌, ◌++◌, map}
use Rattle.sql_token.specs.declared.token.Span.{Span}
use Rattle.sql_tree.specs.declared.cond.AreaKind.{AreaKind}
use Rattle.sql_tree.specs.declared.cond.Cmp.{Cmp}
use Rattle.sql_tree.specs.declared.cond.Cond.{Cond, out-Cond}
use Rattle.sql_tree.specs.declared.cond.Conj.{Conj, out-Conj}
use Rattle.sql_tree.specs.declared.cond.IntList.{IntList}
use Rattle.sql_tree.specs.declared.cond.Neg.{Neg, out-Neg}
use Rattle.sql_tree.specs.declared.cond.Pred.TheFolds.{fold_out-Cond, fold_out-Conj, fold_out-Neg}
use Rattle.sql_tree.specs.declared.cond.Pred.TheVariants as pred
use Rattle.sql_tree.specs.declared.expr.Expr.{Expr}
use Rattle.sql_tree.specs.declared.name.Name.{Name}
use Rattle.text_rules.specs.Readings.{joined}
use Rattle.bind_rules.specs.Mentions.{Mentions, Side, mentioned, mentions_at_cond, mentions_at_conj, mentions_at_neg, mentions_at_pred, mentions_of_cond}
use Rattle.bind_rules.proofs.Folds.{fold_group, fold_compare, fold_between, fold_among, fold_null, fold_area, fold_chord}
use Rattle.bind_checks.specs.Parts.{conj_mentions, neg_mentions, pred_mentions}

-- ---- what a condition mentions

pub cond_mentions_parts : (c : Cond)
    → mentions_of_cond c ≡ conj_mentions (out-Cond c).first ++ joined (map conj_mentions (out-Cond c).rest)
unfolding mentions_of_cond conj_mentions neg_mentions pred_mentions
cond_mentions_parts c =
    fold_out-Cond Mentions Mentions Mentions Mentions mentions_at_pred mentions_at_cond mentions_at_conj
    mentions_at_neg c

pub conj_mentions_parts : (c : Conj)
    → conj_mentions c ≡ neg_mentions (out-Conj c).first ++ joined (map neg_mentions (out-Conj c).rest)
unfolding mentions_of_cond conj_mentions neg_mentions pred_mentions
conj_mentions_parts c =
    fold_out-Conj Mentions Mentions Mentions Mentions mentions_at_pred mentions_at_cond mentions_at_conj
    mentions_at_neg c

pub neg_mentions_parts : (n : Neg) → neg_mentions n ≡ pred_mentions (out-Neg n).pred
unfolding mentions_of_cond conj_mentions neg_mentions pred_mentions
neg_mentions_parts n =
    fold_out-Neg Mentions Mentions Mentions Mentions mentions_at_pred mentions_at_cond mentions_at_conj
    mentions_at_neg n

pub group_mentions : (c : Cond) → pred_mentions (pred.Bracket c) ≡ mentions_of_cond c
unfolding mentions_of_cond conj_mentions neg_mentions pred_mentions
group_mentions c = fold_group mentions_at_pred mentions_at_cond mentions_at_conj mentions_at_neg c

pub compare_mentions : (left : Expr) (op : Cmp) (right : Expr)
    → pred_mentions (pred.Compare left op right) ≡ mentioned left ++ mentioned right
unfolding mentions_of_cond conj_mentions neg_mentions pred_mentions
compare_mentions left op right =
    fold_compare mentions_at_pred mentions_at_cond mentions_at_conj mentions_at_neg left op right

pub between_mentions : (without : Bool) (value low high : Expr)
    → pred_mentions (pred.Between without value low high) ≡ mentioned value ++ mentioned low ++ mentioned high
unfolding mentions_of_cond conj_mentions neg_mentions pred_mentions
between_mentions without value low high =
    fold_between mentions_at_pred mentions_at_cond mentions_at_conj mentions_at_neg without value low high

pub among_mentions : (without : Bool) (value : Expr) (list : IntList)
    → pred_mentions (pred.Among without value list) ≡ mentioned value
unfolding mentions_of_cond conj_mentions neg_mentions pred_mentions
among_mentions without value list =
    fold_among mentions_at_pred mentions_at_cond mentions_at_conj mentions_at_neg without value list

pub null_mentions : (without : Bool) (value : Expr) → pred_mentions (pred.IsNull without value) ≡ mentioned value
unfolding mentions_of_cond conj_mentions neg_mentions pred_mentions
null_mentions without value = fold_null mentions_at_pred mentions_at_cond mentions_at_conj mentions_at_neg without value

pub area_mentions : (kind : AreaKind) (span : Span) (args : IntList) → pred_mentions (pred.Area kind span args) ≡ []
unfolding mentions_of_cond conj_mentions neg_mentions pred_mentions
area_mentions kind span args =
    fold_area mentions_at_pred mentions_at_cond mentions_at_conj mentions_at_neg kind span args

pub chord_mentions : (left right : Name) (strict : Bool) (n : ℤ)
    → pred_mentions (pred.Chord left right strict n) ≡ Side left ∷ Side right ∷ []
unfolding mentions_of_cond conj_mentions neg_mentions pred_mentions
chord_mentions left right strict n =
    fold_chord mentions_at_pred mentions_at_cond mentions_at_conj mentions_at_neg left right strict n
