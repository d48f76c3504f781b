use Rattle.std.proofs.Common.{drop, map}
use Rattle.value_rules.specs.Terms.{term_of, term_of_factor, term_of_prod, term_of_signed}
use Rattle.column_eval.proofs.Sums.{ProductSoFar, SumSoFar}
use Rattle.column_eval.proofs.expr.+worth.Given as goal

abbrev pub invariant-sum-loop-next : goal.invariant-sum-loop-next
invariant-sum-loop-next l =
    SumSoFar l.rows.objects l.lane (map term_of_signed (drop l.next-index l.rest)) (term_of l.e)

abbrev pub invariant-product-loop-next : goal.invariant-product-loop-next
invariant-product-loop-next l =
    ProductSoFar l.rows.objects l.lane (map term_of_factor (drop l.next-index l.rest)) (term_of_prod l.p)
