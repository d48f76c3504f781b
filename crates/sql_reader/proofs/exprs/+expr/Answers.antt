use Rattle.std.proofs.Common.{◌∙◌}
use Rattle.std.proofs.lemmas.Result.{err_from_is_err_and}
use Rattle.sql_rules.specs.Symbols.{OfSign}
use Rattle.sql_rules.specs.Readers.{adds_at, each, mark_at}
use Rattle.sql_rules.specs.ReadExprs.{signed_with, factor_with, expr_at}
use Rattle.sql_token.specs.declared.sign.Sign.TheVariants as sign
use Rattle.sql_reader.proofs.Steps.{loop_end, loop_stuck, loop_fails, loop_more, fails_with}
use Rattle.sql_reader.proofs.exprs.+expr.Goals as goal

pub more_factors-returns-in-None : goal.more_factors-returns-in-None
more_factors-returns-in-None t c =
    c.loop-turn.invariant ∙ loop_stuck (mark_at (OfSign sign.Star)) (λ _. factor_with (expr_at c.args.inner)) c.loop-turn.found c.len-turn-end.result c.loop-turn.turn c.loop-turn.rest c.loop-turn-test.true c.in-None.ensures

pub more_factors-returns-in_err-item-in-Some : goal.more_factors-returns-in_err-item-in-Some
more_factors-returns-in_err-item-in-Some t c =
    let p = err_from_is_err_and c.from_residual.result c.from_residual.ensures.1 in
    rw (p.1, p.2) (fails_with c.in_err-item-in-Some.field-0.0 (factor_with (expr_at c.args.inner) c.in-Some.next)
    (each (mark_at (OfSign sign.Star)) (λ _. factor_with (expr_at c.args.inner)) c.args.ahead.now) c.in_err-item-in-Some.ensures
    (λ stuck. c.loop-turn.invariant ∙ loop_fails (mark_at (OfSign sign.Star)) (λ _. factor_with (expr_at c.args.inner)) c.loop-turn.found c.len-turn-end.result c.loop-turn.turn c.loop-turn.rest (OfSign sign.Star) c.in-Some.next c.loop-turn-test.true c.in-Some.ensures stuck))

pub more_factors-loop-turn-preserved : goal.more_factors-loop-turn-preserved
more_factors-loop-turn-preserved t c =
    rw c.in_ok-push-in-Some.ensures.ok
    (c.loop-turn.invariant ∙ loop_more (mark_at (OfSign sign.Star)) (λ _. factor_with (expr_at c.args.inner)) c.loop-turn.found c.len-turn-end.result c.loop-turn.turn c.loop-turn.rest (OfSign sign.Star) c.in-Some.next c.in_ok-item-in-Some.item
    c.in_ok-item-in-Some.next c.loop-turn-test.true c.in-Some.ensures c.in_ok-item-in-Some.ensures)

pub more_factors-returns : goal.more_factors-returns
more_factors-returns t c =
    c.loop-turn.invariant ∙ loop_end (mark_at (OfSign sign.Star)) (λ _. factor_with (expr_at c.args.inner)) c.loop-turn.found c.len-turn-end.result c.loop-turn.turn c.loop-turn.rest c.loop-turn-test.false

pub more_prods-returns-in-None : goal.more_prods-returns-in-None
more_prods-returns-in-None t c =
    c.loop-turn.invariant ∙ loop_stuck (adds_at) (signed_with (expr_at c.args.inner)) c.loop-turn.found c.len-turn-end.result c.loop-turn.turn c.loop-turn.rest c.loop-turn-test.true c.in-None.ensures

pub more_prods-returns-in_err-item-in-Some : goal.more_prods-returns-in_err-item-in-Some
more_prods-returns-in_err-item-in-Some t c =
    let p = err_from_is_err_and c.from_residual.result c.from_residual.ensures.1 in
    rw (p.1, p.2) (fails_with c.in_err-item-in-Some.field-0.0 (signed_with (expr_at c.args.inner) c.in-Some.minus c.in-Some.next)
    (each (adds_at) (signed_with (expr_at c.args.inner)) c.args.ahead.now) c.in_err-item-in-Some.ensures
    (λ stuck. c.loop-turn.invariant ∙ loop_fails (adds_at) (signed_with (expr_at c.args.inner)) c.loop-turn.found c.len-turn-end.result c.loop-turn.turn c.loop-turn.rest (c.in-Some.minus) c.in-Some.next c.loop-turn-test.true c.in-Some.ensures stuck))

pub more_prods-loop-turn-preserved : goal.more_prods-loop-turn-preserved
more_prods-loop-turn-preserved t c =
    rw c.in_ok-push-in-Some.ensures.ok
    (c.loop-turn.invariant ∙ loop_more (adds_at) (signed_with (expr_at c.args.inner)) c.loop-turn.found c.len-turn-end.result c.loop-turn.turn c.loop-turn.rest (c.in-Some.minus) c.in-Some.next c.in_ok-item-in-Some.item
    c.in_ok-item-in-Some.next c.loop-turn-test.true c.in-Some.ensures c.in_ok-item-in-Some.ensures)

pub more_prods-returns : goal.more_prods-returns
more_prods-returns t c =
    c.loop-turn.invariant ∙ loop_end (adds_at) (signed_with (expr_at c.args.inner)) c.loop-turn.found c.len-turn-end.result c.loop-turn.turn c.loop-turn.rest c.loop-turn-test.false
