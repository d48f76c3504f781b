use Rattle.std.proofs.Common.{sym, subst, arith}
use Rattle.expr_eval.specs.Picks.{pick_of}
use Rattle.expr_eval.proofs.Sizes.{factor_depth, product_depth}
use Rattle.expr_eval.proofs.SoFar.{product_step, sum_step}
use Rattle.expr_eval.proofs.Terms.{factor_atom, first_factor, first_product, fits, next_factor, next_fits}
use Rattle.expr_eval.proofs.Terms.{next_product, sum_fits}
use Rattle.sql_bound.specs.declared.expr.BoundExpr.{size_is-BoundExpr}
use Rattle.sql_bound.specs.declared.expr.BoundFactor.{out-BoundFactor}
use Rattle.sql_bound.specs.declared.expr.BoundProd.{size_is-BoundProd}
use Rattle.sql_bound.specs.declared.expr.BoundSigned.{out-BoundSigned}
use Rattle.value_rules.specs.Terms.{term_of, term_of_atom, term_of_prod}
use Rattle.value_rules.specs.Values.{cell_of}
use Rattle.value_rules.specs.Widths.{IsOfSize, most}
use Rattle.expr_eval.proofs.expr.+worth.Goals as goal

pub sum-product-sum-requires : goal.sum-product-sum-requires
sum-product-sum-requires t c = (
  omega (arith, size_is-BoundExpr c.args.e.now, c.decreases),
  (c.requires.rows, first_product (pick_of c.args.first.now c.args.second) c.args.e.now c.requires.sound),
)

pub sum-product-part-requires : goal.sum-product-part-requires
sum-product-part-requires t c =
    let p = pick_of c.args.first.now c.args.second in
    let xs = c.as_slice-rest.result.now in
    let low = product_depth c.args.e.now xs c.loop-next.next-index c.next-item.result c.loop-next-test.true
    c.next-item.is c.as_slice-rest.ensures in (
      omega (arith, low, c.decreases),
      (
        c.requires.rows,
        next_product p c.loop-next.sum c.args.e.now xs c.loop-next.next-index c.next-item.result
            c.loop-next-test.true c.next-item.is c.loop-next.invariant c.requires.sound,
      ),
    )

pub sum-added-sum-requires-clause-a_size : goal.sum-added-sum-requires-clause-a_size
sum-added-sum-requires-clause-a_size t c =
    sum_fits (pick_of c.args.first.now c.args.second) c.loop-next.sum _ (term_of c.args.e.now) c.requires.rows
    c.loop-next.invariant c.requires.sound

pub sum-added-sum-requires-clause-b_size : goal.sum-added-sum-requires-clause-b_size
sum-added-sum-requires-clause-b_size t c =
    let p = pick_of c.args.first.now c.args.second in
    let sound = next_product p c.loop-next.sum c.args.e.now c.as_slice-rest.result.now c.loop-next.next-index
    c.next-item.result c.loop-next-test.true c.next-item.is c.loop-next.invariant c.requires.sound in
    subst (IsOfSize most) (sym c.product-part.ensures)
    (fits p (term_of_prod (out-BoundSigned c.next-item.result).prod) c.requires.rows sound)

pub sum-loop-next-preserved : goal.sum-loop-next-preserved
sum-loop-next-preserved t c =
    sum_step (cell_of (pick_of c.args.first.now c.args.second)) c.loop-next.sum c.product-part.result c.added-sum.result
    c.args.e.now c.as_slice-rest.result.now c.loop-next.next-index c.next-item.result
    c.loop-next-test.true c.next-item.is c.loop-next.invariant c.product-part.ensures c.added-sum.ensures

pub product-factor-product-requires : goal.product-factor-product-requires
product-factor-product-requires t c = (
  omega (arith, size_is-BoundProd c.args.p.now, c.decreases),
  (c.requires.rows, first_factor (pick_of c.args.first.now c.args.second) c.args.p.now c.requires.sound),
)

pub product-factor-part-requires : goal.product-factor-part-requires
product-factor-part-requires t c =
    let p = pick_of c.args.first.now c.args.second in
    let xs = c.as_slice-rest.result.now in
    let low = factor_depth c.args.p.now xs c.loop-next.next-index c.next-item.result c.loop-next-test.true
    c.next-item.is c.as_slice-rest.ensures in (
      omega (arith, low, c.decreases),
      (
        c.requires.rows,
        next_factor p c.loop-next.product c.args.p.now xs c.loop-next.next-index c.next-item.result
            c.loop-next-test.true c.next-item.is c.loop-next.invariant c.requires.sound,
      ),
    )

pub product-multiplied-product-requires : goal.product-multiplied-product-requires
product-multiplied-product-requires t c =
    next_fits (pick_of c.args.first.now c.args.second) c.loop-next.product c.factor-part.result c.args.p.now
    c.as_slice-rest.result.now c.loop-next.next-index c.next-item.result
    c.loop-next-test.true c.next-item.is c.requires.rows c.loop-next.invariant c.requires.sound c.factor-part.ensures

pub product-loop-next-preserved : goal.product-loop-next-preserved
product-loop-next-preserved t c =
    product_step (cell_of (pick_of c.args.first.now c.args.second)) c.loop-next.product c.factor-part.result
    c.multiplied-product.result c.args.p.now c.as_slice-rest.result.now c.loop-next.next-index c.next-item.result
    c.loop-next-test.true c.next-item.is c.loop-next.invariant c.factor-part.ensures c.multiplied-product.ensures

pub factor-signed-requires : goal.factor-signed-requires
factor-signed-requires t c =
    let p = pick_of c.args.first.now c.args.second in
    subst (IsOfSize most) (sym c.atom-size.ensures)
    (fits p (term_of_atom (out-BoundFactor c.args.f.now).atom) c.requires.rows
    (factor_atom p c.args.f.now c.requires.sound))
