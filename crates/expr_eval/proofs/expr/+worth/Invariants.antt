use Rattle.std.proofs.Common.{drop, map}
use Rattle.expr_eval.specs.Picks.{pick_of}
use Rattle.value_rules.specs.Terms.{term_of, term_of_factor, term_of_prod, term_of_signed}
use Rattle.value_rules.specs.Values.{cell_of}
use Rattle.expr_eval.proofs.SoFar.{ProductSoFar, SumSoFar}
use Rattle.expr_eval.proofs.expr.+worth.Given as goal

abbrev pub invariant-sum-loop-next : goal.invariant-sum-loop-next
invariant-sum-loop-next l =
    SumSoFar (cell_of (pick_of l.first l.second)) l.sum (map term_of_signed (drop l.next-index l.rest)) (term_of l.e)

abbrev pub invariant-product-loop-next : goal.invariant-product-loop-next
invariant-product-loop-next l =
    ProductSoFar (cell_of (pick_of l.first l.second)) l.product (map term_of_factor (drop l.next-index l.rest))
    (term_of_prod l.p)
