use Rattle.std.proofs.Common.{◌≡◌, ◌+◌, ◌*◌, ◌-◌}
use Rattle.sql_rules.specs.Symbols.{OfSign}
use Rattle.sql_rules.specs.Readers.{each, many, adds_at, mark_at}
use Rattle.sql_rules.specs.ReadExprs.{signed_with, factor_with, expr_at}
use Rattle.sql_token.specs.declared.sign.Sign.TheVariants as sign
use Rattle.sql_reader.specs.Answers.{rest_of}
use Rattle.sql_reader.proofs.skip.+skip.Given as goal

abbrev pub decreases-skip_sum : goal.decreases-skip_sum
decreases-skip_sum l = 16 * l.inner + 8

abbrev pub decreases-skip_prods : goal.decreases-skip_prods
decreases-skip_prods l = 16 * l.inner + 7

abbrev pub decreases-skip_prod : goal.decreases-skip_prod
decreases-skip_prod l = 16 * l.inner + 5

abbrev pub decreases-skip_factors : goal.decreases-skip_factors
decreases-skip_factors l = 16 * l.inner + 4

abbrev pub decreases-skip_factor : goal.decreases-skip_factor
decreases-skip_factor l = 16 * l.inner + 3

abbrev pub decreases-skip_atom : goal.decreases-skip_atom
decreases-skip_atom l = 16 * l.inner + 2

abbrev pub decreases-skip_bracket : goal.decreases-skip_bracket
decreases-skip_bracket l = 16 * l.inner + 1

abbrev pub decreases-skip_expr : goal.decreases-skip_expr
decreases-skip_expr l = 16 * l.levels

abbrev pub invariant-skip_prods-loop-turn : goal.invariant-skip_prods-loop-turn
invariant-skip_prods-loop-turn l =
    rest_of (each adds_at (signed_with (expr_at l.inner)) l.fn.ahead)
    ≡ rest_of (many adds_at (signed_with (expr_at l.inner)) (l.turn-end - l.turn) l.rest)

abbrev pub invariant-skip_factors-loop-turn : goal.invariant-skip_factors-loop-turn
invariant-skip_factors-loop-turn l =
    rest_of (each (mark_at (OfSign sign.Star)) (λ _. factor_with (expr_at l.inner)) l.fn.ahead)
    ≡ rest_of (many (mark_at (OfSign sign.Star)) (λ _. factor_with (expr_at l.inner)) (l.turn-end - l.turn) l.rest)
