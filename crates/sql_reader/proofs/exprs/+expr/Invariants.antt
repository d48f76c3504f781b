use Rattle.std.proofs.Common.{◌≡◌, ◌+◌, ◌*◌, ◌-◌}
use Rattle.sql_rules.specs.Symbols.{OfSign}
use Rattle.sql_rules.specs.Readers.{each, many, adds_at, mark_at}
use Rattle.sql_rules.specs.ReadExprs.{signed_with, factor_with, expr_at}
use Rattle.sql_token.specs.declared.sign.Sign.TheVariants as sign
use Rattle.sql_reader.proofs.Steps.{with_front}
use Rattle.sql_reader.proofs.exprs.+expr.Given as goal

abbrev pub decreases-sum : goal.decreases-sum
decreases-sum l = 16 * l.inner + 8

abbrev pub decreases-more_prods : goal.decreases-more_prods
decreases-more_prods l = 16 * l.inner + 7

abbrev pub decreases-signed : goal.decreases-signed
decreases-signed l = 16 * l.inner + 6

abbrev pub decreases-prod : goal.decreases-prod
decreases-prod l = 16 * l.inner + 5

abbrev pub decreases-more_factors : goal.decreases-more_factors
decreases-more_factors l = 16 * l.inner + 4

abbrev pub decreases-factor : goal.decreases-factor
decreases-factor l = 16 * l.inner + 3

abbrev pub decreases-atom : goal.decreases-atom
decreases-atom l = 16 * l.inner + 2

abbrev pub decreases-bracket : goal.decreases-bracket
decreases-bracket l = 16 * l.inner + 1

abbrev pub decreases-expr : goal.decreases-expr
decreases-expr l = 16 * l.levels

abbrev pub invariant-more_prods-loop-turn : goal.invariant-more_prods-loop-turn
invariant-more_prods-loop-turn l = each adds_at (signed_with (expr_at l.inner)) l.fn.ahead ≡ with_front l.found (many adds_at (signed_with (expr_at l.inner)) (l.turn-end - l.turn) l.rest)

abbrev pub invariant-more_factors-loop-turn : goal.invariant-more_factors-loop-turn
invariant-more_factors-loop-turn l = each (mark_at (OfSign sign.Star)) (λ _. factor_with (expr_at l.inner)) l.fn.ahead ≡ with_front l.found (many (mark_at (OfSign sign.Star)) (λ _. factor_with (expr_at l.inner)) (l.turn-end - l.turn) l.rest)
