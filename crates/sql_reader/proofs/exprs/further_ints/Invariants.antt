use Rattle.std.proofs.Common.{◌≡◌, ◌-◌}
use Rattle.sql_rules.specs.Symbols.{OfSign}
use Rattle.sql_rules.specs.Readers.{each, many, mark_at}
use Rattle.sql_rules.specs.ReadExprs.{int_at}
use Rattle.sql_token.specs.declared.sign.Sign.TheVariants as sign
use Rattle.sql_reader.proofs.Steps.{with_front}
use Rattle.sql_reader.proofs.exprs.further_ints.Given as goal

abbrev pub invariant-loop-turn : goal.invariant-loop-turn
invariant-loop-turn l = each (mark_at (OfSign sign.Comma)) (λ _. int_at) l.fn.ahead ≡ with_front l.found (many (mark_at (OfSign sign.Comma)) (λ _. int_at) (l.turn-end - l.turn) l.rest)
