use Rattle.std.proofs.Common.{drop, map}
use Rattle.value_rules.specs.Keys.{key_cell}
use Rattle.value_rules.specs.Terms.{term_of, term_of_factor, term_of_prod, term_of_signed}
use Rattle.expr_eval.proofs.SoFar.{ProductSoFar, SumSoFar}
use Rattle.expr_eval.proofs.key.+key_worth.Given as goal

abbrev pub invariant-key_sum-loop-next : goal.invariant-key_sum-loop-next
invariant-key_sum-loop-next l =
    SumSoFar (key_cell l.keys l.key) l.sum (map term_of_signed (drop l.next-index l.rest)) (term_of l.e)

abbrev pub invariant-key_product-loop-next : goal.invariant-key_product-loop-next
invariant-key_product-loop-next l =
    ProductSoFar (key_cell l.keys l.key) l.product (map term_of_factor (drop l.next-index l.rest)) (term_of_prod l.p)
