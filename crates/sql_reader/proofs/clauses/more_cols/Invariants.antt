use Rattle.std.proofs.Common.{◌≡◌, ◌-◌}
use Rattle.sql_rules.specs.Symbols.{OfSign}
use Rattle.sql_rules.specs.Readers.{many, mark_at}
use Rattle.sql_token.specs.declared.sign.Sign.TheVariants as sign
use Rattle.sql_rules.specs.ReadExprs.{col_at}
use Rattle.sql_reader.proofs.Steps.{with_front}
use Rattle.sql_reader.proofs.clauses.more_cols.Given as goal

abbrev pub invariant-loop-turn : goal.invariant-loop-turn
invariant-loop-turn l =
    many (mark_at (OfSign sign.Comma)) (λ _. col_at) (3) l.fn.ahead
    ≡ with_front l.found (many (mark_at (OfSign sign.Comma)) (λ _. col_at) (3 - l.turn) l.rest)
