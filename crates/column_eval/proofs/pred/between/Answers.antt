use Rattle.sql_tree.specs.declared.cond.Cmp.TheVariants.{AtMost}
use Rattle.value_rules.specs.Formulas.{And, Compares}
use Rattle.value_rules.specs.Terms.{term_of}
use Rattle.column_vectors.proofs.Flagged.{flags_and, flags_compared, flags_negated}
use Rattle.column_eval.proofs.pred.between.Goals as goal

pub returns : goal.returns
returns c =
    let rows = c.args.rows.now.objects in
    let v = term_of c.args.value.now in
    let l = term_of c.args.low.now in
    let h = term_of c.args.high.now in
    flags_negated c.args.negated rows (And (Compares AtMost l v) (Compares AtMost v h)) c.joined_by_and-within.result c.negated_if.result
    (flags_and rows (Compares AtMost l v) (Compares AtMost v h) c.in_ok-above.above c.in_ok-below.below c.joined_by_and-within.result
    (flags_compared AtMost l v rows c.in_ok-low.low c.in_ok-value.value c.in_ok-above.above c.in_ok-low.ensures c.in_ok-value.ensures c.in_ok-above.ensures)
    (flags_compared AtMost v h rows c.in_ok-value.value c.in_ok-high.high c.in_ok-below.below c.in_ok-value.ensures c.in_ok-high.ensures c.in_ok-below.ensures)
    c.joined_by_and-within.ensures)
    c.negated_if.ensures
