use Rattle.std.proofs.Common.{◌∙◌}
use Rattle.std.proofs.lemmas.Result.{err_from_is_err_and}
use Rattle.sql_rules.specs.Symbols.{OfSign}
use Rattle.sql_rules.specs.Readers.{each, mark_at}
use Rattle.sql_token.specs.declared.sign.Sign.TheVariants as sign
use Rattle.sql_rules.specs.ReadQueries.{item_at}
use Rattle.sql_reader.proofs.Steps.{loop_end, loop_stuck, loop_fails, loop_more, fails_with}
use Rattle.sql_reader.proofs.items.more_items.Goals as goal

pub returns-in-None : goal.returns-in-None
returns-in-None c =
    c.loop-turn.invariant ∙ loop_stuck (mark_at (OfSign sign.Comma)) (λ _. item_at) c.loop-turn.found c.len-turn-end.result c.loop-turn.turn c.loop-turn.rest c.loop-turn-test.true c.in-None.ensures

pub returns-in_err-item-in-Some : goal.returns-in_err-item-in-Some
returns-in_err-item-in-Some c =
    let p = err_from_is_err_and c.from_residual.result c.from_residual.ensures.1 in
    rw (p.1, p.2) (fails_with c.in_err-item-in-Some.field-0.0 (item_at c.in-Some.next)
    (each (mark_at (OfSign sign.Comma)) (λ _. item_at) c.args.ahead.now) c.in_err-item-in-Some.ensures
    (λ stuck. c.loop-turn.invariant ∙ loop_fails (mark_at (OfSign sign.Comma)) (λ _. item_at) c.loop-turn.found c.len-turn-end.result c.loop-turn.turn c.loop-turn.rest (OfSign sign.Comma) c.in-Some.next c.loop-turn-test.true c.in-Some.ensures stuck))

pub loop-turn-preserved : goal.loop-turn-preserved
loop-turn-preserved c =
    rw c.in_ok-push-in-Some.ensures.ok
    (c.loop-turn.invariant ∙ loop_more (mark_at (OfSign sign.Comma)) (λ _. item_at) c.loop-turn.found c.len-turn-end.result c.loop-turn.turn c.loop-turn.rest (OfSign sign.Comma) c.in-Some.next c.in_ok-item-in-Some.item
    c.in_ok-item-in-Some.next c.loop-turn-test.true c.in-Some.ensures c.in_ok-item-in-Some.ensures)

pub returns : goal.returns
returns c =
    c.loop-turn.invariant ∙ loop_end (mark_at (OfSign sign.Comma)) (λ _. item_at) c.loop-turn.found c.len-turn-end.result c.loop-turn.turn c.loop-turn.rest c.loop-turn-test.false
