use Rattle.std.proofs.Common.{◌≡◌, ◌+◌, ◌*◌, Some, map, drop}
use Rattle.bind_checks.specs.Narrow.{narrow_factor, narrow_from_left, narrow_signed}
use Rattle.bind_checks.proofs.expr_widths.+narrow.Given as goal

abbrev pub invariant-narrow_product-loop-factor : goal.invariant-narrow_product-loop-factor
invariant-narrow_product-loop-factor g l = record {
  ahead : narrow_from_left (λ a b. a * b) (Some l.first) (map (narrow_factor (g.C.Columns.size l.columns)) l.rest)
      ≡ narrow_from_left (λ a b. a * b) (Some l.product) (map (narrow_factor (g.C.Columns.size l.columns)) (drop l.factor-index l.rest));
}

abbrev pub invariant-narrow_sum-loop-signed : goal.invariant-narrow_sum-loop-signed
invariant-narrow_sum-loop-signed g l = record {
  ahead : narrow_from_left (λ a b. a + b) (Some l.first) (map (narrow_signed (g.C.Columns.size l.columns)) l.rest)
      ≡ narrow_from_left (λ a b. a + b) (Some l.sum) (map (narrow_signed (g.C.Columns.size l.columns)) (drop l.signed-index l.rest));
}
