use Rattle.std.proofs.Common.{◌∙◌, sym}
use Rattle.bind_checks.specs.Parts.{conj_mentions, neg_mentions}
use Rattle.bind_checks.proofs.CondParts.{area_mentions, among_mentions, between_mentions, chord_mentions, compare_mentions}
use Rattle.bind_checks.proofs.CondParts.{cond_mentions_parts, conj_mentions_parts, group_mentions, neg_mentions_parts}
use Rattle.bind_checks.proofs.CondParts.{null_mentions}
use Rattle.query_walks.proofs.Firsts.{first_here, first_later, first_of_none, first_at_end, next_part}
use Rattle.bind_checks.proofs.cond_names.+unknown.Goals as goal

pub unknown_in_cond-returns-in-Some : goal.unknown_in_cond-returns-in-Some
unknown_in_cond-returns-in-Some g t c = rw (cond_mentions_parts c.args.cond.now) (first_here _ _ _ _ _ c.in-Some.ensures)

pub unknown_in_cond-returns-in-None : goal.unknown_in_cond-returns-in-None
unknown_in_cond-returns-in-None g t c =
    rw (cond_mentions_parts c.args.cond.now)
    ((rw c.as_slice.ensures at c.unknown_in_conjs.ensures) ∙ sym (first_later _ _ _ _ c.in-None.ensures))

pub unknown_in_conj-returns-in-Some : goal.unknown_in_conj-returns-in-Some
unknown_in_conj-returns-in-Some g t c = rw (conj_mentions_parts c.args.conj.now) (first_here _ _ _ _ _ c.in-Some.ensures)

pub unknown_in_conj-returns-in-None : goal.unknown_in_conj-returns-in-None
unknown_in_conj-returns-in-None g t c =
    rw (conj_mentions_parts c.args.conj.now)
    ((rw c.as_slice.ensures at c.unknown_in_negs.ensures) ∙ sym (first_later _ _ _ _ c.in-None.ensures))

pub unknown_in_conjs-returns-in-Some : goal.unknown_in_conjs-returns-in-Some
unknown_in_conjs-returns-in-Some g t c =
    let next = next_part conj_mentions c.args.rest.now c.loop-conj.conj-index c.conj-item.result
    c.loop-conj-test.true c.conj-item.is in
    rw (c.loop-conj.invariant.ahead, next) (first_here _ _ _ _ _ c.in-Some.ensures)

pub unknown_in_conjs-loop-conj-preserved : goal.unknown_in_conjs-loop-conj-preserved
unknown_in_conjs-loop-conj-preserved g t c =
    let next = next_part conj_mentions c.args.rest.now c.loop-conj.conj-index c.conj-item.result
    c.loop-conj-test.true c.conj-item.is in
    record { ahead = (rw next at c.loop-conj.invariant.ahead) ∙ first_later _ _ _ _ c.in-None.ensures }

pub unknown_in_conjs-returns : goal.unknown_in_conjs-returns
unknown_in_conjs-returns g t c =
    first_at_end _ _ conj_mentions c.args.rest.now c.loop-conj.conj-index c.loop-conj-test.false
    c.loop-conj.invariant.ahead

pub unknown_in_negs-returns-in-Some : goal.unknown_in_negs-returns-in-Some
unknown_in_negs-returns-in-Some g t c =
    let next = next_part neg_mentions c.args.rest.now c.loop-neg.neg-index c.neg-item.result c.loop-neg-test.true
    c.neg-item.is in
    rw (c.loop-neg.invariant.ahead, next) (first_here _ _ _ _ _ c.in-Some.ensures)

pub unknown_in_negs-loop-neg-preserved : goal.unknown_in_negs-loop-neg-preserved
unknown_in_negs-loop-neg-preserved g t c =
    let next = next_part neg_mentions c.args.rest.now c.loop-neg.neg-index c.neg-item.result c.loop-neg-test.true
    c.neg-item.is in
    record { ahead = (rw next at c.loop-neg.invariant.ahead) ∙ first_later _ _ _ _ c.in-None.ensures }

pub unknown_in_negs-returns : goal.unknown_in_negs-returns
unknown_in_negs-returns g t c =
    first_at_end _ _ neg_mentions c.args.rest.now c.loop-neg.neg-index c.loop-neg-test.false
    c.loop-neg.invariant.ahead

pub unknown_in_neg-returns : goal.unknown_in_neg-returns
unknown_in_neg-returns g t c = rw (neg_mentions_parts c.args.neg.now) c.unknown_in_pred.ensures

pub unknown_in_pred-returns-in-Bracket : goal.unknown_in_pred-returns-in-Bracket
unknown_in_pred-returns-in-Bracket g t c =
    rw (c.in-Bracket.is, group_mentions c.in-Bracket.cond) (rw c.get.ensures at c.unknown_in_cond.ensures)

pub unknown_in_pred-returns-in-Compare : goal.unknown_in_pred-returns-in-Compare
unknown_in_pred-returns-in-Compare g t c =
    rw (c.in-Compare.is, compare_mentions c.in-Compare.left _ c.in-Compare.right) c.unknown_in_two.ensures

pub unknown_in_pred-returns-in-Between : goal.unknown_in_pred-returns-in-Between
unknown_in_pred-returns-in-Between g t c =
    rw (c.in-Between.is, between_mentions _ c.in-Between.value c.in-Between.low c.in-Between.high)
    c.unknown_in_three.ensures

pub unknown_in_pred-returns-in-Among : goal.unknown_in_pred-returns-in-Among
unknown_in_pred-returns-in-Among g t c = rw (c.in-Among.is, among_mentions _ c.in-Among.value _) c.unknown_in_expr.ensures

pub unknown_in_pred-returns-in-IsNull : goal.unknown_in_pred-returns-in-IsNull
unknown_in_pred-returns-in-IsNull g t c =
    rw (c.in-IsNull.is, null_mentions _ c.in-IsNull.value) c.unknown_in_expr-in-IsNull.ensures

pub unknown_in_pred-returns-in-Area : goal.unknown_in_pred-returns-in-Area
unknown_in_pred-returns-in-Area g t c = rw (c.in-Area.is, area_mentions _ _ _) (first_of_none _ _)

pub unknown_in_pred-returns-in-Chord : goal.unknown_in_pred-returns-in-Chord
unknown_in_pred-returns-in-Chord g t c =
    rw (c.in-Chord.is, chord_mentions c.in-Chord.left c.in-Chord.right _ _)
    c.unknown_side_of_two.ensures
