use Rattle.std.proofs.Common.{◌≡◌, ◌-◌, length}
use Rattle.sql_rules.specs.Symbols.{OfSign}
use Rattle.sql_rules.specs.Readers.{many, mark_at}
use Rattle.sql_token.specs.declared.sign.Sign.TheVariants as sign
use Rattle.sql_rules.specs.ReadQueries.{item_at}
use Rattle.sql_reader.proofs.Steps.{with_front}
use Rattle.sql_reader.proofs.items.more_items.Given as goal

abbrev pub invariant-loop-turn : goal.invariant-loop-turn
invariant-loop-turn l =
    many (mark_at (OfSign sign.Comma)) (λ _. item_at) (length l.fn.ahead) l.fn.ahead
    ≡ with_front l.found (many (mark_at (OfSign sign.Comma)) (λ _. item_at) (l.turn-end - l.turn) l.rest)
