use Rattle.std.proofs.Common.{◌∙◌, sym}
use Rattle.sql_rules.specs.Symbols.{OfSign}
use Rattle.sql_rules.specs.Readers.{adds_at, mark_at}
use Rattle.sql_rules.specs.ReadExprs.{signed_with, factor_with, expr_at}
use Rattle.sql_token.specs.declared.sign.Sign.TheVariants as sign
use Rattle.sql_reader.proofs.Skips.{skip_end, skip_stuck, skip_fails, skip_more, bracket_some, factor_rest, passed, prod_some}
use Rattle.sql_reader.proofs.Skips.{signed_rest}
use Rattle.sql_reader.proofs.skip.+skip.Goals as goal

pub skip_prods-returns-in-None : goal.skip_prods-returns-in-None
skip_prods-returns-in-None t c =
    c.loop-turn.invariant ∙ skip_stuck adds_at (signed_with (expr_at c.args.inner)) c.len-turn-end.result c.loop-turn.turn c.loop-turn.rest c.loop-turn-test.true c.in-None.ensures

pub skip_prods-returns : goal.skip_prods-returns
skip_prods-returns t c =
    c.loop-turn.invariant ∙ skip_end adds_at (signed_with (expr_at c.args.inner)) c.len-turn-end.result c.loop-turn.turn c.loop-turn.rest c.loop-turn-test.false

pub skip_factors-returns-in-None : goal.skip_factors-returns-in-None
skip_factors-returns-in-None t c =
    c.loop-turn.invariant ∙ skip_stuck (mark_at (OfSign sign.Star)) (λ _. factor_with (expr_at c.args.inner)) c.len-turn-end.result c.loop-turn.turn c.loop-turn.rest c.loop-turn-test.true c.in-None.ensures

pub skip_factors-returns : goal.skip_factors-returns
skip_factors-returns t c =
    c.loop-turn.invariant ∙ skip_end (mark_at (OfSign sign.Star)) (λ _. factor_with (expr_at c.args.inner)) c.len-turn-end.result c.loop-turn.turn c.loop-turn.rest c.loop-turn-test.false

pub skip_prods-returns-in_err-rest-in-Some : goal.skip_prods-returns-in_err-rest-in-Some
skip_prods-returns-in_err-rest-in-Some t c =
    let none = signed_rest (expr_at c.args.inner) c.in-Some.minus c.in-Some.next ∙ c.in_err-rest-in-Some.ensures in
    c.loop-turn.invariant ∙ skip_fails adds_at (signed_with (expr_at c.args.inner)) c.len-turn-end.result c.loop-turn.turn c.loop-turn.rest c.in-Some.minus c.in-Some.next c.loop-turn-test.true c.in-Some.ensures none ∙ sym c.from_residual.ensures

pub skip_prods-loop-turn-preserved : goal.skip_prods-loop-turn-preserved
skip_prods-loop-turn-preserved t c =
    let some = signed_rest (expr_at c.args.inner) c.in-Some.minus c.in-Some.next ∙ c.in_ok-rest-in-Some.ensures in
    c.loop-turn.invariant ∙ skip_more adds_at (signed_with (expr_at c.args.inner)) c.len-turn-end.result c.loop-turn.turn c.loop-turn.rest c.in-Some.minus c.in-Some.next c.in_ok-rest-in-Some.rest c.loop-turn-test.true c.in-Some.ensures some

pub skip_factors-returns-in_err-rest-in-Some : goal.skip_factors-returns-in_err-rest-in-Some
skip_factors-returns-in_err-rest-in-Some t c =
    c.loop-turn.invariant ∙ skip_fails (mark_at (OfSign sign.Star)) (λ _. factor_with (expr_at c.args.inner)) c.len-turn-end.result c.loop-turn.turn c.loop-turn.rest (OfSign sign.Star) c.in-Some.next c.loop-turn-test.true c.in-Some.ensures c.in_err-rest-in-Some.ensures ∙ sym c.from_residual.ensures

pub skip_factors-loop-turn-preserved : goal.skip_factors-loop-turn-preserved
skip_factors-loop-turn-preserved t c =
    c.loop-turn.invariant ∙ skip_more (mark_at (OfSign sign.Star)) (λ _. factor_with (expr_at c.args.inner)) c.len-turn-end.result c.loop-turn.turn c.loop-turn.rest (OfSign sign.Star) c.in-Some.next c.in_ok-rest-in-Some.rest c.loop-turn-test.true c.in-Some.ensures c.in_ok-rest-in-Some.ensures

pub skip_bracket-returns : goal.skip_bracket-returns
skip_bracket-returns t c =
    bracket_some (expr_at c.args.inner) c.args.ahead.now c.in_ok-rest.rest c.in_ok-rest.ensures ∙ passed (OfSign sign.Close) (mark_at (OfSign sign.Close) c.in_ok-rest.rest) c.after_sign.result c.after_sign.ensures

pub skip_factor-returns : goal.skip_factor-returns
skip_factor-returns t c =
    factor_rest (expr_at c.args.inner) c.args.ahead.now c.maybe_minus-minus.result.1 c.maybe_minus-minus.result.0 c.maybe_minus-minus.ensures ∙ c.skip_atom.ensures

pub skip_prod-returns : goal.skip_prod-returns
skip_prod-returns t c =
    prod_some (expr_at c.args.inner) c.args.ahead.now c.in_ok-rest.rest c.in_ok-rest.ensures ∙ c.skip_factors.ensures
