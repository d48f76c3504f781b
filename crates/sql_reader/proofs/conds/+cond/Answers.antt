use Rattle.std.proofs.Common.{◌-◌, ◌∙◌}
use Rattle.std.proofs.lemmas.Result.{err_from_is_err_and}
use Rattle.sql_rules.specs.Symbols.{OfKeyword}
use Rattle.sql_rules.specs.Readers.{each, mark_at}
use Rattle.sql_rules.specs.ReadExprs.{expr_at}
use Rattle.sql_rules.specs.ReadConds.{conj_with, neg_with, cond_at}
use Rattle.sql_token.specs.declared.keyword.Keyword.TheVariants as keyword
use Rattle.sql_reader.proofs.Steps.{loop_end, loop_stuck, loop_fails, loop_more, fails_with}
use Rattle.sql_reader.proofs.conds.+cond.Goals as goal

pub more_conjs-returns-in-None : goal.more_conjs-returns-in-None
more_conjs-returns-in-None t c =
    c.loop-turn.invariant ∙ loop_stuck (mark_at (OfKeyword keyword.Or)) (λ _. conj_with (expr_at c.args.levels) (cond_at (c.args.levels - 1))) c.loop-turn.found c.len-turn-end.result c.loop-turn.turn c.loop-turn.rest c.loop-turn-test.true c.in-None.ensures

pub more_conjs-returns-in_err-item-in-Some : goal.more_conjs-returns-in_err-item-in-Some
more_conjs-returns-in_err-item-in-Some t c =
    let p = err_from_is_err_and c.from_residual.result c.from_residual.ensures.1 in
    rw (p.1, p.2) (fails_with c.in_err-item-in-Some.field-0.0 (conj_with (expr_at c.args.levels) (cond_at (c.args.levels - 1)) c.in-Some.next)
    (each (mark_at (OfKeyword keyword.Or)) (λ _. conj_with (expr_at c.args.levels) (cond_at (c.args.levels - 1))) c.args.ahead.now) c.in_err-item-in-Some.ensures
    (λ stuck. c.loop-turn.invariant ∙ loop_fails (mark_at (OfKeyword keyword.Or)) (λ _. conj_with (expr_at c.args.levels) (cond_at (c.args.levels - 1))) c.loop-turn.found c.len-turn-end.result c.loop-turn.turn c.loop-turn.rest (OfKeyword keyword.Or) c.in-Some.next c.loop-turn-test.true c.in-Some.ensures stuck))

pub more_conjs-loop-turn-preserved : goal.more_conjs-loop-turn-preserved
more_conjs-loop-turn-preserved t c =
    rw c.in_ok-push-in-Some.ensures.ok
    (c.loop-turn.invariant ∙ loop_more (mark_at (OfKeyword keyword.Or)) (λ _. conj_with (expr_at c.args.levels) (cond_at (c.args.levels - 1))) c.loop-turn.found c.len-turn-end.result c.loop-turn.turn c.loop-turn.rest (OfKeyword keyword.Or) c.in-Some.next c.in_ok-item-in-Some.item
    c.in_ok-item-in-Some.next c.loop-turn-test.true c.in-Some.ensures c.in_ok-item-in-Some.ensures)

pub more_conjs-returns : goal.more_conjs-returns
more_conjs-returns t c =
    c.loop-turn.invariant ∙ loop_end (mark_at (OfKeyword keyword.Or)) (λ _. conj_with (expr_at c.args.levels) (cond_at (c.args.levels - 1))) c.loop-turn.found c.len-turn-end.result c.loop-turn.turn c.loop-turn.rest c.loop-turn-test.false

pub more_negs-returns-in-None : goal.more_negs-returns-in-None
more_negs-returns-in-None t c =
    c.loop-turn.invariant ∙ loop_stuck (mark_at (OfKeyword keyword.And)) (λ _. neg_with (expr_at c.args.levels) (cond_at (c.args.levels - 1))) c.loop-turn.found c.len-turn-end.result c.loop-turn.turn c.loop-turn.rest c.loop-turn-test.true c.in-None.ensures

pub more_negs-returns-in_err-item-in-Some : goal.more_negs-returns-in_err-item-in-Some
more_negs-returns-in_err-item-in-Some t c =
    let p = err_from_is_err_and c.from_residual.result c.from_residual.ensures.1 in
    rw (p.1, p.2) (fails_with c.in_err-item-in-Some.field-0.0 (neg_with (expr_at c.args.levels) (cond_at (c.args.levels - 1)) c.in-Some.next)
    (each (mark_at (OfKeyword keyword.And)) (λ _. neg_with (expr_at c.args.levels) (cond_at (c.args.levels - 1))) c.args.ahead.now) c.in_err-item-in-Some.ensures
    (λ stuck. c.loop-turn.invariant ∙ loop_fails (mark_at (OfKeyword keyword.And)) (λ _. neg_with (expr_at c.args.levels) (cond_at (c.args.levels - 1))) c.loop-turn.found c.len-turn-end.result c.loop-turn.turn c.loop-turn.rest (OfKeyword keyword.And) c.in-Some.next c.loop-turn-test.true c.in-Some.ensures stuck))

pub more_negs-loop-turn-preserved : goal.more_negs-loop-turn-preserved
more_negs-loop-turn-preserved t c =
    rw c.in_ok-push-in-Some.ensures.ok
    (c.loop-turn.invariant ∙ loop_more (mark_at (OfKeyword keyword.And)) (λ _. neg_with (expr_at c.args.levels) (cond_at (c.args.levels - 1))) c.loop-turn.found c.len-turn-end.result c.loop-turn.turn c.loop-turn.rest (OfKeyword keyword.And) c.in-Some.next c.in_ok-item-in-Some.item
    c.in_ok-item-in-Some.next c.loop-turn-test.true c.in-Some.ensures c.in_ok-item-in-Some.ensures)

pub more_negs-returns : goal.more_negs-returns
more_negs-returns t c =
    c.loop-turn.invariant ∙ loop_end (mark_at (OfKeyword keyword.And)) (λ _. neg_with (expr_at c.args.levels) (cond_at (c.args.levels - 1))) c.loop-turn.found c.len-turn-end.result c.loop-turn.turn c.loop-turn.rest c.loop-turn-test.false
