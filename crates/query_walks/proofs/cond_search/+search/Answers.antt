use Rattle.std.proofs.Common.{◌∙◌, map, refl, sym}
use Rattle.sql_tree.specs.declared.cond.Cond.{out-Cond}
use Rattle.sql_tree.specs.declared.cond.Conj.{out-Conj}
use Rattle.text_rules.specs.Readings.{joined}
use Rattle.query_walks.specs.Parts.{conj_exprs, neg_exprs}
use Rattle.query_walks.proofs.Anys.{any_here, any_later}
use Rattle.query_walks.proofs.CondParts.{among_exprs, area_exprs, between_exprs, chord_exprs, compare_exprs}
use Rattle.query_walks.proofs.CondParts.{cond_exprs_parts, conj_exprs_parts, group_exprs, neg_exprs_parts, null_exprs}
use Rattle.query_walks.proofs.cond_search.+search.Goals as goal

pub is_in_cond-returns-then-is_in_conj : goal.is_in_cond-returns-then-is_in_conj
is_in_cond-returns-then-is_in_conj g t c =
    rw (cond_exprs_parts c.args.cond.now)
    (sym (any_here _ (conj_exprs (out-Cond c.args.cond.now).first)
    (joined (map conj_exprs (out-Cond c.args.cond.now).rest)) (sym c.if-is_in_conj.ensures)))

pub is_in_cond-returns-else-is_in_conj : goal.is_in_cond-returns-else-is_in_conj
is_in_cond-returns-else-is_in_conj g t c =
    rw (cond_exprs_parts c.args.cond.now)
    ((rw c.as_slice.ensures at c.is_in_conjs.ensures) ∙ sym
    (any_later _ (conj_exprs (out-Cond c.args.cond.now).first)
    (joined (map conj_exprs (out-Cond c.args.cond.now).rest)) (sym c.if-is_in_conj.ensures)))

pub is_in_conj-returns-then-is_in_neg : goal.is_in_conj-returns-then-is_in_neg
is_in_conj-returns-then-is_in_neg g t c =
    rw (conj_exprs_parts c.args.conj.now)
    (sym (any_here _ (neg_exprs (out-Conj c.args.conj.now).first)
    (joined (map neg_exprs (out-Conj c.args.conj.now).rest)) (sym c.if-is_in_neg.ensures)))

pub is_in_conj-returns-else-is_in_neg : goal.is_in_conj-returns-else-is_in_neg
is_in_conj-returns-else-is_in_neg g t c =
    rw (conj_exprs_parts c.args.conj.now)
    ((rw c.as_slice.ensures at c.is_in_negs.ensures) ∙ sym
    (any_later _ (neg_exprs (out-Conj c.args.conj.now).first)
    (joined (map neg_exprs (out-Conj c.args.conj.now).rest)) (sym c.if-is_in_neg.ensures)))

pub is_in_neg-returns : goal.is_in_neg-returns
is_in_neg-returns g t c = rw (neg_exprs_parts c.args.neg.now) c.is_in_pred.ensures

pub is_in_pred-returns-in-Bracket : goal.is_in_pred-returns-in-Bracket
is_in_pred-returns-in-Bracket g t c =
    rw (c.in-Bracket.is, group_exprs c.in-Bracket.cond) (rw c.get.ensures at c.is_in_cond.ensures)

pub is_in_pred-returns-in-Compare : goal.is_in_pred-returns-in-Compare
is_in_pred-returns-in-Compare g t c =
    rw (c.in-Compare.is, compare_exprs c.in-Compare.left _ c.in-Compare.right) c.is_one_of_two.ensures

pub is_in_pred-returns-in-Between : goal.is_in_pred-returns-in-Between
is_in_pred-returns-in-Between g t c =
    rw (c.in-Between.is, between_exprs _ c.in-Between.value c.in-Between.low c.in-Between.high)
    c.is_one_of_three.ensures

pub is_in_pred-returns-in-Among : goal.is_in_pred-returns-in-Among
is_in_pred-returns-in-Among g t c = rw (c.in-Among.is, among_exprs _ c.in-Among.value _) c.is_one.ensures

pub is_in_pred-returns-in-IsNull : goal.is_in_pred-returns-in-IsNull
is_in_pred-returns-in-IsNull g t c = rw (c.in-IsNull.is, null_exprs _ c.in-IsNull.value) c.is_one-in-IsNull.ensures

pub is_in_pred-returns-in-Area : goal.is_in_pred-returns-in-Area
is_in_pred-returns-in-Area g t c = rw (c.in-Area.is, area_exprs _ _ _) refl

pub is_in_pred-returns-in-Chord : goal.is_in_pred-returns-in-Chord
is_in_pred-returns-in-Chord g t c = rw (c.in-Chord.is, chord_exprs _ _ _ _) refl
