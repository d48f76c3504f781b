use Rattle.std.proofs.Common.{sym, ◌∙◌}
use Rattle.expr_eval.proofs.KeyTerms.{passed_here}
use Rattle.expr_eval.proofs.key.key_cell.Goals as goal

pub loop-place-preserved : goal.loop-place-preserved
loop-place-preserved c =
    sym (passed_here c.args.keys.now c.args.key.now c.args.col.now _ c.loop-place.place c.requires
    c.loop-place-test.true (sym (c.if-is_same.ensures)))
    ∙ c.loop-place.invariant
