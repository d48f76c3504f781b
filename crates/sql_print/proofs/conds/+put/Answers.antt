use Rattle.std.proofs.Common.{codes}
use Rattle.sky_io.proofs.Writes.{under_fail, under_more, wrote_one, wrote_two}
use Rattle.sql_rules.proofs.PrintOpened.{print_bracket_pred, print_area_pred}
use Rattle.sql_rules.specs.PrintedConds.{print_conj, print_neg}
use Rattle.sql_rules.proofs.Listed.{next_part}
use Rattle.sql_print.proofs.Printing.{compare_pred, between_pred, among_pred, null_pred, chord_pred, cond_parts, conj_parts, neg_parts}
use Rattle.sql_print.proofs.conds.+put.Goals as goal

pub put_cond-returns-in-Failed : goal.put_cond-returns-in-Failed
put_cond-returns-in-Failed g t c = rw (cond_parts c.args.cond.now) (wrote_one _ _ _ _ c.in-Failed.ensures)

pub put_cond-returns-in-Done : goal.put_cond-returns-in-Done
put_cond-returns-in-Done g t c = rw (cond_parts c.args.cond.now) (wrote_two _ _ _ _ _ _ c.in-Done.ensures (rw c.as_slice.ensures at c.put_conjs.ensures))

pub put_conjs-returns-in-Failed : goal.put_conjs-returns-in-Failed
put_conjs-returns-in-Failed g t c =
    let next = next_part (codes " OR ") print_conj c.args.rest.now c.loop-conj.conj-index c.conj-item.result c.loop-conj-test.true c.conj-item.is in
    under_fail _ _ _ _ _ _ (rw next at c.loop-conj.invariant.under) c.in-Failed.ensures

pub put_conjs-loop-conj-preserved : goal.put_conjs-loop-conj-preserved
put_conjs-loop-conj-preserved g t c =
    let next = next_part (codes " OR ") print_conj c.args.rest.now c.loop-conj.conj-index c.conj-item.result c.loop-conj-test.true c.conj-item.is in
    record { under = under_more _ _ _ _ _ _ (rw next at c.loop-conj.invariant.under) c.in-Done.ensures }

pub put_or_conj-returns-in-Done : goal.put_or_conj-returns-in-Done
put_or_conj-returns-in-Done g t c = wrote_two _ _ _ (codes " OR ") _ _ c.in-Done.ensures c.put_conj.ensures

pub put_conj-returns-in-Failed : goal.put_conj-returns-in-Failed
put_conj-returns-in-Failed g t c = rw (conj_parts c.args.conj.now) (wrote_one _ _ _ _ c.in-Failed.ensures)

pub put_conj-returns-in-Done : goal.put_conj-returns-in-Done
put_conj-returns-in-Done g t c = rw (conj_parts c.args.conj.now) (wrote_two _ _ _ _ _ _ c.in-Done.ensures (rw c.as_slice.ensures at c.put_negs.ensures))

pub put_negs-returns-in-Failed : goal.put_negs-returns-in-Failed
put_negs-returns-in-Failed g t c =
    let next = next_part (codes " AND ") print_neg c.args.rest.now c.loop-neg.neg-index c.neg-item.result c.loop-neg-test.true c.neg-item.is in
    under_fail _ _ _ _ _ _ (rw next at c.loop-neg.invariant.under) c.in-Failed.ensures

pub put_negs-loop-neg-preserved : goal.put_negs-loop-neg-preserved
put_negs-loop-neg-preserved g t c =
    let next = next_part (codes " AND ") print_neg c.args.rest.now c.loop-neg.neg-index c.neg-item.result c.loop-neg-test.true c.neg-item.is in
    record { under = under_more _ _ _ _ _ _ (rw next at c.loop-neg.invariant.under) c.in-Done.ensures }

pub put_and_neg-returns-in-Done : goal.put_and_neg-returns-in-Done
put_and_neg-returns-in-Done g t c = wrote_two _ _ _ (codes " AND ") _ _ c.in-Done.ensures c.put_neg.ensures

pub put_neg-returns-in-Failed : goal.put_neg-returns-in-Failed
put_neg-returns-in-Failed g t c = rw (neg_parts c.args.neg.now) (wrote_one _ _ _ _ c.in-Failed.ensures)

pub put_neg-returns-in-Done : goal.put_neg-returns-in-Done
put_neg-returns-in-Done g t c = rw (neg_parts c.args.neg.now) (wrote_two _ _ _ _ _ _ c.in-Done.ensures c.put_pred.ensures)

pub put_pred-returns-in-Bracket : goal.put_pred-returns-in-Bracket
put_pred-returns-in-Bracket g t c = rw (c.in-Bracket.is, print_bracket_pred c.in-Bracket.cond) (rw c.get.ensures at c.put_group.ensures)

pub put_pred-returns-in-Compare : goal.put_pred-returns-in-Compare
put_pred-returns-in-Compare g t c = rw (c.in-Compare.is, compare_pred c.in-Compare.left c.in-Compare.op c.in-Compare.right) c.put_compare.ensures

pub put_pred-returns-in-Between : goal.put_pred-returns-in-Between
put_pred-returns-in-Between g t c = rw (c.in-Between.is, between_pred c.in-Between.not c.in-Between.value c.in-Between.low c.in-Between.high) c.put_between.ensures

pub put_pred-returns-in-Among : goal.put_pred-returns-in-Among
put_pred-returns-in-Among g t c = rw (c.in-Among.is, among_pred c.in-Among.not c.in-Among.value c.in-Among.list) c.put_among.ensures

pub put_pred-returns-in-IsNull : goal.put_pred-returns-in-IsNull
put_pred-returns-in-IsNull g t c = rw (c.in-IsNull.is, null_pred c.in-IsNull.not c.in-IsNull.value) c.put_is_null.ensures

pub put_pred-returns-in-Area : goal.put_pred-returns-in-Area
put_pred-returns-in-Area g t c = rw (c.in-Area.is, print_area_pred c.in-Area.kind _ c.in-Area.args) c.put_area.ensures

pub put_pred-returns-in-Chord : goal.put_pred-returns-in-Chord
put_pred-returns-in-Chord g t c = rw (c.in-Chord.is, chord_pred c.in-Chord.left c.in-Chord.right c.in-Chord.strict c.in-Chord.n) c.put_chord.ensures

pub put_group-returns-in-Done : goal.put_group-returns-in-Done
put_group-returns-in-Done g t c = wrote_two _ _ _ (codes "(") _ _ c.in-Done.ensures c.put_closed.ensures

pub put_closed-returns-in-Done : goal.put_closed-returns-in-Done
put_closed-returns-in-Done g t c = wrote_two _ _ _ _ (codes ")") _ c.in-Done.ensures c.put.ensures
