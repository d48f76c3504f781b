use Rattle.std.proofs.Common.{◌≡◌, ◌∙◌, ◌+◌, ◌≤◌, ◌+ℤ◌, arith, nat_abs, rules, subst, sym, of_z, to_z, w64, FitsSigned}
use Rattle.std.specs.Int.{w128}
use Rattle.std.proofs.lemmas.Int.{to_z-of_z}
use Rattle.column_vectors.specs.Aggregates.{numbers_between, sum_of}
use Rattle.column_vectors.specs.Lanes.{values_in}
use Rattle.column_vectors.specs.declared.join.TheConstants.{WIDE_MOST}
use Rattle.column_vectors.proofs.Aggregated.{sum_more}
use Rattle.column_vectors.proofs.aggregate.sum_by_blocks.Goals as goal

pub overflow_add-total : goal.overflow_add-total
overflow_add-total c =
    let values = values_in c.args.numbers.now c.args.known.now in
    let end = c.loop-at.at + c.min.result in
    let narrow : FitsSigned w64 c.narrow_from.result = search rules in
    let wide : FitsSigned w128 c.from-total.result = search rules in
    let high : end ≤ c.args.to = omega (arith, c.min.ensures, c.loop-at-test.true) in
    let part : to_z w128 (of_z w128 c.from-total.result) ≡ sum_of (numbers_between values c.loop-at.at end) =
    to_z-of_z w128 _ wide ∙ (c.from-total.ensures ∙ (to_z-of_z w64 _ narrow ∙ c.narrow_from.ensures)) in
    let both = sum_more values c.args.from c.loop-at.at end _ _ c.loop-at.invariant.low (omega arith) c.loop-at.invariant.total part in
    let size : nat_abs (to_z w128 c.loop-at.total-bits +ℤ to_z w128 (of_z w128 c.from-total.result)) ≤ WIDE_MOST =
    subst (λ z. nat_abs z ≤ WIDE_MOST) (sym both) (c.requires.wide end (omega (arith, c.loop-at.invariant.low)) high) in
    search rules

pub loop-at-preserved : goal.loop-at-preserved
loop-at-preserved c =
    let values = values_in c.args.numbers.now c.args.known.now in
    let end = c.loop-at.at + c.min.result in
    let narrow : FitsSigned w64 c.narrow_from.result = search rules in
    let wide : FitsSigned w128 c.from-total.result = search rules in
    let high : end ≤ c.args.to = omega (arith, c.min.ensures, c.loop-at-test.true) in
    let part : to_z w128 (of_z w128 c.from-total.result) ≡ sum_of (numbers_between values c.loop-at.at end) =
    to_z-of_z w128 _ wide ∙ (c.from-total.ensures ∙ (to_z-of_z w64 _ narrow ∙ c.narrow_from.ensures)) in
    let both = sum_more values c.args.from c.loop-at.at end _ _ c.loop-at.invariant.low (omega arith) c.loop-at.invariant.total part in
    let size : nat_abs (to_z w128 c.loop-at.total-bits +ℤ to_z w128 (of_z w128 c.from-total.result)) ≤ WIDE_MOST =
    subst (λ z. nat_abs z ≤ WIDE_MOST) (sym both) (c.requires.wide end (omega (arith, c.loop-at.invariant.low)) high) in
    let fits : FitsSigned w128 (to_z w128 c.loop-at.total-bits +ℤ to_z w128 (of_z w128 c.from-total.result)) = search rules in
    record {
      low = omega (arith, c.loop-at.invariant.low);
      high = high;
      total = to_z-of_z w128 _ fits ∙ both;
    }
