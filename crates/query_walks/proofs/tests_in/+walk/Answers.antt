use Rattle.std.proofs.Common.{ap, ◌∙◌, length, map}
use Rattle.std.specs.Prelude.{◌&&◌, ◌==◌}
use Rattle.sql_tree.specs.declared.cond.Cond.{out-Cond}
use Rattle.text_rules.specs.Readings.{joined}
use Rattle.query_walks.specs.Walks.{kept_if, is_alone}
use Rattle.query_walks.specs.Gathering.{tests_of_conj, tests_of_neg}
use Rattle.query_walks.proofs.TestWalks.{nothing_gathered, gathers_two, under_more, next_part, alone_length, cond_tests, conj_tests, neg_tests, group_tests, compare_tests, between_tests, among_tests, null_tests, area_tests, chord_tests}
use Rattle.query_walks.proofs.tests_in.+walk.Goals as goal

pub walk_cond-returns : goal.walk_cond-returns
walk_cond-returns g t c =
    let alone = c.is_empty.ensures ∙ ap (λ xs. length xs == 0) c.as_slice-rest.ensures ∙ alone_length (out-Cond c.args.cond.now).rest in
    let top = c.is_both-top.ensures ∙ ap (λ b. c.args.top && b) alone in
    let first = rw top at c.walk_conj.ensures in
    let rest = rw top at c.walk_conjs.ensures in
    rw (cond_tests c.args.top c.args.cond.now)
    (gathers_two g.G.Gather.kept g.G.Gather.after c.args.gather.now c.walk_conj.new.gather c.walk_conjs.new.gather
    (kept_if (c.args.top && is_alone (out-Cond c.args.cond.now).rest) (tests_of_conj (out-Cond c.args.cond.now).first))
    (kept_if (c.args.top && is_alone (out-Cond c.args.cond.now).rest) (joined (map tests_of_conj (out-Cond c.args.cond.now).rest)))
    first (rw c.as_slice-rest.ensures at rest))

pub walk_conj-returns : goal.walk_conj-returns
walk_conj-returns g t c = rw (conj_tests c.args.top c.args.conj.now) (gathers_two g.G.Gather.kept g.G.Gather.after _ _ _ _ _ c.walk_neg.ensures (rw c.as_slice.ensures at c.walk_negs.ensures))

pub walk_conjs-loop-conj-preserved : goal.walk_conjs-loop-conj-preserved
walk_conjs-loop-conj-preserved g t c =
    let next = next_part c.args.top tests_of_conj c.args.rest.now c.loop-conj.conj-index c.conj-item.result c.loop-conj-test.true c.conj-item.is in
    record { under = under_more g.G.Gather.kept g.G.Gather.after _ _ _ _ _ _ (rw next at c.loop-conj.invariant.under) c.walk_conj.ensures }

pub walk_neg-returns : goal.walk_neg-returns
walk_neg-returns g t c = rw (neg_tests c.args.top c.args.neg.now) (rw c.is_both.ensures at c.walk_pred.ensures)

pub walk_negs-loop-neg-preserved : goal.walk_negs-loop-neg-preserved
walk_negs-loop-neg-preserved g t c =
    let next = next_part c.args.top tests_of_neg c.args.rest.now c.loop-neg.neg-index c.neg-item.result c.loop-neg-test.true c.neg-item.is in
    record { under = under_more g.G.Gather.kept g.G.Gather.after _ _ _ _ _ _ (rw next at c.loop-neg.invariant.under) c.walk_neg.ensures }

pub walk_pred-returns-in-Bracket : goal.walk_pred-returns-in-Bracket
walk_pred-returns-in-Bracket g t c = rw (c.in-Bracket.is, group_tests c.in-Bracket.cond) (rw c.get.ensures at c.walk_cond.ensures)

pub walk_pred-returns-in-Compare : goal.walk_pred-returns-in-Compare
walk_pred-returns-in-Compare g t c = rw (c.in-Compare.is, compare_tests c.in-Compare.left c.in-Compare.op c.in-Compare.right) c.show_equation.ensures

pub walk_pred-returns-in-Among : goal.walk_pred-returns-in-Among
walk_pred-returns-in-Among g t c = rw (c.in-Among.is, among_tests c.in-Among.not c.in-Among.value c.in-Among.list) c.show_list.ensures

pub walk_pred-returns-in-Area : goal.walk_pred-returns-in-Area
walk_pred-returns-in-Area g t c = rw (c.in-Area.is, area_tests c.args.top c.in-Area.kind c.in-Area.span c.in-Area.args) c.look.ensures

pub walk_pred-returns-in-Chord : goal.walk_pred-returns-in-Chord
walk_pred-returns-in-Chord g t c = rw (c.in-Chord.is, chord_tests c.args.top c.in-Chord.left c.in-Chord.right c.in-Chord.strict c.in-Chord.n) c.look-in-Chord.ensures

pub walk_pred-returns-in-Between : goal.walk_pred-returns-in-Between
walk_pred-returns-in-Between g t c = rw (c.in-Between.is, between_tests c.in-Between.not c.in-Between.value c.in-Between.low c.in-Between.high) (nothing_gathered g.G.Gather.kept g.G.Gather.after _)

pub walk_pred-returns-in-IsNull : goal.walk_pred-returns-in-IsNull
walk_pred-returns-in-IsNull g t c = rw (c.in-IsNull.is, null_tests c.in-IsNull.not c.in-IsNull.value) (nothing_gathered g.G.Gather.kept g.G.Gather.after _)
