use Rattle.std.proofs.Common.{sym, subst, arith}
use Rattle.value_rules.specs.Keys.{key_cell}
use Rattle.expr_eval.proofs.Sizes.{factor_depth, product_depth}
use Rattle.expr_eval.proofs.KeyTerms.{factor_atom, first_factor, first_product, next_factor, next_fits, next_product}
use Rattle.expr_eval.proofs.KeyTerms.{ranged, sum_fits}
use Rattle.expr_eval.proofs.SoFar.{product_step, sum_step}
use Rattle.sql_bound.specs.declared.expr.BoundExpr.{size_is-BoundExpr}
use Rattle.sql_bound.specs.declared.expr.BoundFactor.{out-BoundFactor, size_is-BoundFactor}
use Rattle.sql_bound.specs.declared.expr.BoundProd.{size_is-BoundProd}
use Rattle.sql_bound.specs.declared.expr.BoundSigned.{out-BoundSigned}
use Rattle.value_rules.specs.Terms.{term_of, term_of_atom, term_of_prod}
use Rattle.value_rules.specs.Widths.{IsOfSize, most}
use Rattle.expr_eval.proofs.key.+key_worth.Goals as goal

pub key_sum-key_product-sum-requires : goal.key_sum-key_product-sum-requires
key_sum-key_product-sum-requires t c = (
  omega (arith, size_is-BoundExpr c.args.e.now, c.decreases),
  (c.requires.long, first_product (key_cell c.args.keys.now c.args.key.now) c.args.e.now c.requires.range),
)

pub key_sum-key_product-part-requires : goal.key_sum-key_product-part-requires
key_sum-key_product-part-requires t c =
    let cells = key_cell c.args.keys.now c.args.key.now in
    let xs = c.as_slice-rest.result.now in
    let low = product_depth c.args.e.now xs c.loop-next.next-index c.next-item.result c.loop-next-test.true
    c.next-item.is c.as_slice-rest.ensures in (
      omega (arith, low, c.decreases),
      (
        c.requires.long,
        next_product cells c.loop-next.sum c.args.e.now xs c.loop-next.next-index c.next-item.result
            c.loop-next-test.true c.next-item.is c.loop-next.invariant c.requires.range,
      ),
    )

pub key_sum-added-sum-requires-clause-a_size : goal.key_sum-added-sum-requires-clause-a_size
key_sum-added-sum-requires-clause-a_size t c =
    sum_fits (key_cell c.args.keys.now c.args.key.now) c.loop-next.sum _ (term_of c.args.e.now)
    c.loop-next.invariant c.requires.range

pub key_sum-added-sum-requires-clause-b_size : goal.key_sum-added-sum-requires-clause-b_size
key_sum-added-sum-requires-clause-b_size t c =
    let cells = key_cell c.args.keys.now c.args.key.now in
    let range = next_product cells c.loop-next.sum c.args.e.now c.as_slice-rest.result.now c.loop-next.next-index
    c.next-item.result c.loop-next-test.true c.next-item.is c.loop-next.invariant c.requires.range in
    subst (IsOfSize most) (sym c.key_product-part.ensures)
    (ranged cells (term_of_prod (out-BoundSigned c.next-item.result).prod) range)

pub key_sum-loop-next-preserved : goal.key_sum-loop-next-preserved
key_sum-loop-next-preserved t c =
    sum_step (key_cell c.args.keys.now c.args.key.now) c.loop-next.sum c.key_product-part.result c.added-sum.result
    c.args.e.now c.as_slice-rest.result.now c.loop-next.next-index c.next-item.result
    c.loop-next-test.true c.next-item.is c.loop-next.invariant c.key_product-part.ensures c.added-sum.ensures

pub key_product-key_factor-product-requires : goal.key_product-key_factor-product-requires
key_product-key_factor-product-requires t c = (
  omega (arith, size_is-BoundProd c.args.p.now, c.decreases),
  (c.requires.long, first_factor (key_cell c.args.keys.now c.args.key.now) c.args.p.now c.requires.range),
)

pub key_product-key_factor-part-requires : goal.key_product-key_factor-part-requires
key_product-key_factor-part-requires t c =
    let cells = key_cell c.args.keys.now c.args.key.now in
    let xs = c.as_slice-rest.result.now in
    let low = factor_depth c.args.p.now xs c.loop-next.next-index c.next-item.result c.loop-next-test.true
    c.next-item.is c.as_slice-rest.ensures in (
      omega (arith, low, c.decreases),
      (
        c.requires.long,
        next_factor cells c.loop-next.product c.args.p.now xs c.loop-next.next-index c.next-item.result
            c.loop-next-test.true c.next-item.is c.loop-next.invariant c.requires.range,
      ),
    )

pub key_product-multiplied-product-requires : goal.key_product-multiplied-product-requires
key_product-multiplied-product-requires t c =
    next_fits (key_cell c.args.keys.now c.args.key.now) c.loop-next.product c.key_factor-part.result c.args.p.now
    c.as_slice-rest.result.now c.loop-next.next-index c.next-item.result
    c.loop-next-test.true c.next-item.is c.loop-next.invariant c.requires.range c.key_factor-part.ensures

pub key_product-loop-next-preserved : goal.key_product-loop-next-preserved
key_product-loop-next-preserved t c =
    product_step (key_cell c.args.keys.now c.args.key.now) c.loop-next.product c.key_factor-part.result
    c.multiplied-product.result c.args.p.now c.as_slice-rest.result.now c.loop-next.next-index c.next-item.result
    c.loop-next-test.true c.next-item.is c.loop-next.invariant c.key_factor-part.ensures c.multiplied-product.ensures

pub key_factor-key_atom-size-requires : goal.key_factor-key_atom-size-requires
key_factor-key_atom-size-requires t c = (
  omega (arith, size_is-BoundFactor c.args.f.now, c.decreases),
  (c.requires.long, factor_atom (key_cell c.args.keys.now c.args.key.now) c.args.f.now c.requires.range),
)

pub key_factor-signed-requires : goal.key_factor-signed-requires
key_factor-signed-requires t c =
    let cells = key_cell c.args.keys.now c.args.key.now in
    subst (IsOfSize most) (sym c.key_atom-size.ensures)
    (ranged cells (term_of_atom (out-BoundFactor c.args.f.now).atom) (factor_atom cells c.args.f.now c.requires.range))
