use Rattle.std.proofs.Common.{◌≡◌, ◌+◌, ◌*◌, ◌-◌, length}
use Rattle.sql_rules.specs.Symbols.{OfKeyword}
use Rattle.sql_rules.specs.Readers.{many, mark_at}
use Rattle.sql_rules.specs.ReadExprs.{expr_at}
use Rattle.sql_rules.specs.ReadConds.{conj_with, neg_with, cond_at}
use Rattle.sql_token.specs.declared.keyword.Keyword.TheVariants as keyword
use Rattle.sql_reader.proofs.Steps.{with_front}
use Rattle.sql_reader.proofs.conds.+cond.Given as goal

abbrev pub decreases-cond : goal.decreases-cond
decreases-cond l = 16 * l.levels + 10

abbrev pub decreases-any : goal.decreases-any
decreases-any l = 16 * l.levels + 9

abbrev pub decreases-more_conjs : goal.decreases-more_conjs
decreases-more_conjs l = 16 * l.levels + 8

abbrev pub decreases-conj : goal.decreases-conj
decreases-conj l = 16 * l.levels + 7

abbrev pub decreases-more_negs : goal.decreases-more_negs
decreases-more_negs l = 16 * l.levels + 6

abbrev pub decreases-neg : goal.decreases-neg
decreases-neg l = 16 * l.levels + 5

abbrev pub decreases-pred : goal.decreases-pred
decreases-pred l = 16 * l.levels + 4

abbrev pub decreases-other : goal.decreases-other
decreases-other l = 16 * l.levels + 3

abbrev pub decreases-group : goal.decreases-group
decreases-group l = 16 * l.levels + 2

abbrev pub invariant-more_conjs-loop-turn : goal.invariant-more_conjs-loop-turn
invariant-more_conjs-loop-turn l =
    many (mark_at (OfKeyword keyword.Or)) (λ _. conj_with (expr_at l.levels) (cond_at (l.levels - 1))) (length l.fn.ahead) l.fn.ahead
    ≡ with_front l.found (many (mark_at (OfKeyword keyword.Or)) (λ _. conj_with (expr_at l.levels) (cond_at (l.levels - 1))) (l.turn-end - l.turn) l.rest)

abbrev pub invariant-more_negs-loop-turn : goal.invariant-more_negs-loop-turn
invariant-more_negs-loop-turn l =
    many (mark_at (OfKeyword keyword.And)) (λ _. neg_with (expr_at l.levels) (cond_at (l.levels - 1))) (length l.fn.ahead) l.fn.ahead
    ≡ with_front l.found (many (mark_at (OfKeyword keyword.And)) (λ _. neg_with (expr_at l.levels) (cond_at (l.levels - 1))) (l.turn-end - l.turn) l.rest)
