use Rattle.std.proofs.Common.{◌∙◌, ◌+ℤ◌, ap, pos, subst, sym}
use Rattle.column_vectors.specs.Aggregates.{AreSummed, StaysWithin}
use Rattle.column_vectors.specs.Lanes.{numbers_of, values_in}
use Rattle.column_vectors.specs.declared.join.TheConstants.{WIDE_MOST}
use Rattle.column_vectors.proofs.Aggregated.{lane_sum_stays, lane_summed}
use Rattle.column_vectors.proofs.aggregate.sum.Goals as goal

pub sum_by_blocks-requires-clause-fits : goal.sum_by_blocks-requires-clause-fits
sum_by_blocks-requires-clause-fits c =
    let lane = c.args.lane.now in
    let numbers = ap numbers_of c.in-Narrow-Some.is-0 ∙ sym c.as_slice.ensures.value in
    subst (λ k. AreSummed c.in-Narrow-Some.rows (values_in c.as_slice.result.now k)) (sym c.as_slice-known.ensures.value)
    (subst (λ n. AreSummed c.in-Narrow-Some.rows (values_in n lane.known.items)) numbers
    (lane_summed c.in-Narrow-Some.rows lane c.requires.small c.in-Narrow-Some.ensures.1))

pub sum_by_blocks-requires-clause-wide : goal.sum_by_blocks-requires-clause-wide
sum_by_blocks-requires-clause-wide c =
    let lane = c.args.lane.now in
    let numbers = ap numbers_of c.in-Narrow-Some.is-0 ∙ sym c.as_slice.ensures.value in
    subst (λ k. StaysWithin (λ a b. a +ℤ b) WIDE_MOST (pos 0) (values_in c.as_slice.result.now k) c.args.from c.args.to) (sym c.as_slice-known.ensures.value)
    (subst (λ n. StaysWithin (λ a b. a +ℤ b) WIDE_MOST (pos 0) (values_in n lane.known.items) c.args.from c.args.to) numbers
    (lane_sum_stays lane c.args.from c.args.to c.requires.small c.requires.few))

pub wide_from-requires-clause-fits : goal.wide_from-requires-clause-fits
wide_from-requires-clause-fits c =
    let lane = c.args.lane.now in
    subst (λ k. StaysWithin (λ a b. a +ℤ b) WIDE_MOST (pos 0) (values_in (numbers_of lane.numbers) k) c.args.from c.args.to) (sym c.as_slice-known.ensures.value)
    (lane_sum_stays lane c.args.from c.args.to c.requires.small c.requires.few)
