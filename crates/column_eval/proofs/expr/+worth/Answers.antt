use Rattle.std.proofs.Common.{◌+◌, arith, drop, map, false}
use Rattle.expr_eval.proofs.Sizes.{factor_depth, product_depth}
use Rattle.sql_bound.specs.declared.expr.BoundExpr.{size_is-BoundExpr}
use Rattle.sql_bound.specs.declared.expr.BoundProd.{size_is-BoundProd}
use Rattle.sql_bound.specs.declared.expr.BoundSigned.{out-BoundSigned}
use Rattle.value_rules.specs.Sound.{has_col}
use Rattle.value_rules.specs.Terms.{term_of, term_of_factor, term_of_prod, term_of_signed}
use Rattle.column_eval.proofs.Sums.{factor_small, first_factor, first_product, next_factor, next_product, product_can, product_goes}
use Rattle.column_eval.proofs.Sums.{sum_can, sum_goes, sum_more}
use Rattle.column_eval.proofs.expr.+worth.Goals as goal

pub factor-signed-requires : goal.factor-signed-requires
factor-signed-requires t c =
    factor_small (has_col (4 + c.args.rows.now.width) false) c.args.rows.now.objects c.args.f.now c.in_ok-lane.lane c.requires.rows c.requires.sound
    c.in_ok-lane.ensures

pub product-factor-requires : goal.product-factor-requires
product-factor-requires t c = (
  omega (arith, size_is-BoundProd c.args.p.now, c.decreases),
  (c.requires.rows, first_factor (has_col (4 + c.args.rows.now.width) false) c.args.p.now c.requires.sound),
)

pub product-factor-requires-in-loop-next : goal.product-factor-requires-in-loop-next
product-factor-requires-in-loop-next t c =
    let xs = c.as_slice-rest.result.now in
    let low = factor_depth c.args.p.now xs c.loop-next.next-index c.next-item.result c.loop-next-test.true
    c.next-item.is c.as_slice-rest.ensures in (
      omega (arith, low, c.decreases),
      (
        c.requires.rows,
        next_factor (has_col (4 + c.args.rows.now.width) false) c.args.rows.now.objects c.loop-next.lane (term_of_factor c.next-item.result)
            (map term_of_factor (drop (c.loop-next.next-index + 1) xs)) (term_of_prod c.args.p.now)
            (product_goes c.args.rows.now.objects c.loop-next.lane c.args.p.now xs c.loop-next.next-index c.next-item.result
            c.loop-next-test.true c.next-item.is c.loop-next.invariant)
            c.requires.sound,
      ),
    )

pub product-multiplied-requires-clause-can : goal.product-multiplied-requires-clause-can
product-multiplied-requires-clause-can t c =
    let xs = c.as_slice-rest.result.now in
    product_can (has_col (4 + c.args.rows.now.width) false) c.args.rows.now.objects c.loop-next.lane c.in_ok-part.part
    (term_of_factor c.next-item.result) (map term_of_factor (drop (c.loop-next.next-index + 1) xs)) (term_of_prod c.args.p.now)
    c.requires.rows c.requires.sound
    (product_goes c.args.rows.now.objects c.loop-next.lane c.args.p.now xs c.loop-next.next-index c.next-item.result
    c.loop-next-test.true c.next-item.is c.loop-next.invariant)
    c.in_ok-part.ensures

pub sum-product-requires : goal.sum-product-requires
sum-product-requires t c = (
  omega (arith, size_is-BoundExpr c.args.e.now, c.decreases),
  (c.requires.rows, first_product (has_col (4 + c.args.rows.now.width) false) c.args.e.now c.requires.sound),
)

pub sum-product-requires-in-loop-next : goal.sum-product-requires-in-loop-next
sum-product-requires-in-loop-next t c =
    let xs = c.as_slice-rest.result.now in
    let low = product_depth c.args.e.now xs c.loop-next.next-index c.next-item.result c.loop-next-test.true
    c.next-item.is c.as_slice-rest.ensures in (
      omega (arith, low, c.decreases),
      (
        c.requires.rows,
        next_product (has_col (4 + c.args.rows.now.width) false) c.args.rows.now.objects c.loop-next.lane
            (out-BoundSigned c.next-item.result).minus (term_of_prod (out-BoundSigned c.next-item.result).prod)
            (map term_of_signed (drop (c.loop-next.next-index + 1) xs)) (term_of c.args.e.now)
            (sum_goes c.args.rows.now.objects c.loop-next.lane c.args.e.now xs c.loop-next.next-index c.next-item.result
            c.loop-next-test.true c.next-item.is c.loop-next.invariant)
            c.requires.sound,
      ),
    )

pub sum-added-requires-clause-can : goal.sum-added-requires-clause-can
sum-added-requires-clause-can t c =
    let xs = c.as_slice-rest.result.now in
    sum_can (has_col (4 + c.args.rows.now.width) false) c.args.rows.now.objects c.loop-next.lane c.in_ok-part.part
    (out-BoundSigned c.next-item.result).minus (term_of_prod (out-BoundSigned c.next-item.result).prod)
    (map term_of_signed (drop (c.loop-next.next-index + 1) xs)) (term_of c.args.e.now)
    c.requires.rows c.requires.sound
    (sum_goes c.args.rows.now.objects c.loop-next.lane c.args.e.now xs c.loop-next.next-index c.next-item.result
    c.loop-next-test.true c.next-item.is c.loop-next.invariant)
    c.in_ok-part.ensures

pub sum-loop-next-preserved : goal.sum-loop-next-preserved
sum-loop-next-preserved t c =
    let xs = c.as_slice-rest.result.now in
    sum_more c.args.rows.now.objects c.loop-next.lane c.in_ok-part.part c.in_ok-lane-2.lane
    (out-BoundSigned c.next-item.result).minus (term_of_prod (out-BoundSigned c.next-item.result).prod)
    (map term_of_signed (drop (c.loop-next.next-index + 1) xs)) (term_of c.args.e.now)
    (sum_goes c.args.rows.now.objects c.loop-next.lane c.args.e.now xs c.loop-next.next-index c.next-item.result
    c.loop-next-test.true c.next-item.is c.loop-next.invariant)
    c.in_ok-part.ensures c.in_ok-lane-2.ensures
