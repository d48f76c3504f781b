use Rattle.std.proofs.Common.{◌∙◌}
use Rattle.sql_rules.specs.Symbols.{OfSign}
use Rattle.sql_rules.specs.Readers.{mark_at}
use Rattle.sql_rules.specs.ReadExprs.{int_at}
use Rattle.sql_token.specs.declared.sign.Sign.TheVariants as sign
use Rattle.sql_reader.proofs.Steps.{loop_end, loop_stuck, loop_fails, loop_more}
use Rattle.sql_reader.proofs.exprs.further_ints.Goals as goal

pub returns-in-None : goal.returns-in-None
returns-in-None c =
    c.loop-turn.invariant ∙ loop_stuck (mark_at (OfSign sign.Comma)) (λ _. int_at) c.loop-turn.found c.len-turn-end.result c.loop-turn.turn c.loop-turn.rest c.loop-turn-test.true c.in-None.ensures

pub returns-in-None-int : goal.returns-in-None-int
returns-in-None-int c =
    c.loop-turn.invariant ∙ loop_fails (mark_at (OfSign sign.Comma)) (λ _. int_at) c.loop-turn.found c.len-turn-end.result c.loop-turn.turn c.loop-turn.rest (OfSign sign.Comma) c.in-Some.next
    c.loop-turn-test.true c.in-Some.ensures c.in-None-int.ensures

pub loop-turn-preserved : goal.loop-turn-preserved
loop-turn-preserved c =
    rw c.in_ok-push-in-Some-int.ensures.ok
    (c.loop-turn.invariant ∙ loop_more (mark_at (OfSign sign.Comma)) (λ _. int_at) c.loop-turn.found c.len-turn-end.result c.loop-turn.turn c.loop-turn.rest (OfSign sign.Comma) c.in-Some.next
    c.in-Some-int.item c.in-Some-int.next c.loop-turn-test.true c.in-Some.ensures c.in-Some-int.ensures)

pub returns : goal.returns
returns c = c.loop-turn.invariant ∙ loop_end (mark_at (OfSign sign.Comma)) (λ _. int_at) c.loop-turn.found c.len-turn-end.result c.loop-turn.turn c.loop-turn.rest c.loop-turn-test.false
