use Rattle.std.proofs.Common.{◌∙◌, ◌+◌, ◌*◌, ap, refl}
use Rattle.bind_checks.specs.Narrow.{capped, narrow_both, narrow_factor, narrow_signed}
use Rattle.bind_checks.proofs.Narrow.{factor_width_parts, from_too_wide, left_at_end, left_later, left_too_wide}
use Rattle.bind_checks.proofs.Narrow.{narrow_bracket, narrow_col, narrow_expr_parts, narrow_int, narrow_prod_parts}
use Rattle.bind_checks.proofs.Narrow.{signed_width_parts}
use Rattle.bind_checks.proofs.expr_widths.+narrow.Goals as goal

pub narrow_expr-returns-in-Some : goal.narrow_expr-returns-in-Some
narrow_expr-returns-in-Some g t c =
    rw (narrow_expr_parts (g.C.Columns.size c.args.columns.now) c.args.e.now, ← c.in-Some.ensures)
    (rw c.as_slice.ensures at c.narrow_sum.ensures)

pub narrow_expr-returns-in-None : goal.narrow_expr-returns-in-None
narrow_expr-returns-in-None g t c =
    rw (narrow_expr_parts (g.C.Columns.size c.args.columns.now) c.args.e.now, ← c.in-None.ensures) (from_too_wide _ _)

pub narrow_sum-returns-in-None : goal.narrow_sum-returns-in-None
narrow_sum-returns-in-None g t c =
    left_too_wide (λ a b. a + b) (narrow_signed (g.C.Columns.size c.args.columns.now)) _ _ _ _ _ c.loop-signed-test.true c.signed-item.is
    c.loop-signed.invariant.ahead c.in-None.ensures

pub narrow_sum-loop-signed-preserved : goal.narrow_sum-loop-signed-preserved
narrow_sum-loop-signed-preserved g t c =
    record {
      ahead = left_later (λ a b. a + b) (narrow_signed (g.C.Columns.size c.args.columns.now)) _ _ _ _ _ _ c.loop-signed-test.true
          c.signed-item.is c.loop-signed.invariant.ahead c.in-Some.ensures;
    }

pub narrow_sum-returns : goal.narrow_sum-returns
narrow_sum-returns g t c =
    left_at_end (λ a b. a + b) (narrow_signed (g.C.Columns.size c.args.columns.now)) _ _ _ _ c.loop-signed-test.false
    c.loop-signed.invariant.ahead

pub with_signed-returns-in-Some : goal.with_signed-returns-in-Some
unfolding narrow_both
with_signed-returns-in-Some g t c =
    rw (signed_width_parts (g.C.Columns.size c.args.columns.now) c.args.signed.now, ← c.in-Some.ensures) c.capped_sum.ensures

pub with_signed-returns-in-None : goal.with_signed-returns-in-None
unfolding narrow_both
with_signed-returns-in-None g t c = rw (signed_width_parts (g.C.Columns.size c.args.columns.now) c.args.signed.now, ← c.in-None.ensures) refl

pub narrow_prod-returns-in-Some : goal.narrow_prod-returns-in-Some
narrow_prod-returns-in-Some g t c =
    rw (narrow_prod_parts (g.C.Columns.size c.args.columns.now) c.args.prod.now, ← c.in-Some.ensures)
    (rw c.as_slice.ensures at c.narrow_product.ensures)

pub narrow_prod-returns-in-None : goal.narrow_prod-returns-in-None
narrow_prod-returns-in-None g t c =
    rw (narrow_prod_parts (g.C.Columns.size c.args.columns.now) c.args.prod.now, ← c.in-None.ensures) (from_too_wide _ _)

pub narrow_product-returns-in-None : goal.narrow_product-returns-in-None
narrow_product-returns-in-None g t c =
    left_too_wide (λ a b. a * b) (narrow_factor (g.C.Columns.size c.args.columns.now)) _ _ _ _ _ c.loop-factor-test.true c.factor-item.is
    c.loop-factor.invariant.ahead c.in-None.ensures

pub narrow_product-loop-factor-preserved : goal.narrow_product-loop-factor-preserved
narrow_product-loop-factor-preserved g t c =
    record {
      ahead = left_later (λ a b. a * b) (narrow_factor (g.C.Columns.size c.args.columns.now)) _ _ _ _ _ _ c.loop-factor-test.true
          c.factor-item.is c.loop-factor.invariant.ahead c.in-Some.ensures;
    }

pub narrow_product-returns : goal.narrow_product-returns
narrow_product-returns g t c =
    left_at_end (λ a b. a * b) (narrow_factor (g.C.Columns.size c.args.columns.now)) _ _ _ _ c.loop-factor-test.false
    c.loop-factor.invariant.ahead

pub with_factor-returns-in-Some : goal.with_factor-returns-in-Some
unfolding narrow_both
with_factor-returns-in-Some g t c = rw (← c.in-Some.ensures) c.capped_product.ensures

pub with_factor-returns-in-None : goal.with_factor-returns-in-None
unfolding narrow_both
with_factor-returns-in-None g t c = rw (← c.in-None.ensures) refl

pub narrow_factor-returns : goal.narrow_factor-returns
narrow_factor-returns g t c = rw (factor_width_parts (g.C.Columns.size c.args.columns.now) c.args.factor.now) c.narrow_atom.ensures

pub narrow_atom-returns-in-Int : goal.narrow_atom-returns-in-Int
narrow_atom-returns-in-Int g t c =
    rw (c.in-Int.is, narrow_int (g.C.Columns.size c.args.columns.now) c.in-Int.n) (c.capped.ensures ∙ ap capped c.size_of.ensures)

pub narrow_atom-returns-in-Col : goal.narrow_atom-returns-in-Col
narrow_atom-returns-in-Col g t c =
    rw (c.in-Col.is, narrow_col (g.C.Columns.size c.args.columns.now) c.in-Col.col)
    (c.capped-in-Col.ensures ∙ ap capped c.size.ensures)

pub narrow_atom-returns-in-Bracket : goal.narrow_atom-returns-in-Bracket
narrow_atom-returns-in-Bracket g t c =
    rw (c.in-Bracket.is, narrow_bracket (g.C.Columns.size c.args.columns.now) c.in-Bracket.e) (rw c.get.ensures at c.narrow_expr.ensures)
