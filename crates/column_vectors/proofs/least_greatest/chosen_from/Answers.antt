use Rattle.std.proofs.Common.{◌∙◌, ◌≤◌, ap, arith, get_or, pos, rules, subst, sym, w64, FitsSigned}
use Rattle.std.specs.Int.{w128}
use Rattle.std.proofs.lemmas.Int.{to_z-of_z}
use Rattle.column_vectors.specs.Aggregates.{StaysWithin}
use Rattle.column_vectors.specs.Lanes.{numbers_of, values_in}
use Rattle.column_vectors.specs.declared.join.TheConstants.{NARROW_MOST, WIDE_MOST}
use Rattle.column_vectors.proofs.Aggregated.{lane_stays}
use Rattle.column_vectors.proofs.least_greatest.chosen_from.Goals as goal

pub narrow_from-requires-clause-fits : goal.narrow_from-requires-clause-fits
narrow_from-requires-clause-fits g c =
    let lane = c.args.lane.now in
    let fits : FitsSigned w64 (get_or c.as_slice-numbers.result.now c.args.first (pos 0)) = search rules in
    let numbers = ap numbers_of c.in-Narrow-true.is-0 ∙ sym c.as_slice-numbers.ensures.value in
    let stays = lane_stays g.J.Join.joins NARROW_MOST lane c.args.first c.args.from c.args.to c.requires.chooses c.requires.small c.requires.first c.in-Narrow-true.is-1 in
    subst (λ z. StaysWithin g.J.Join.joins NARROW_MOST z (values_in c.as_slice-numbers.result.now c.as_slice-known.result.now) c.args.from c.args.to) (sym (to_z-of_z w64 _ fits))
    (subst (λ k. StaysWithin g.J.Join.joins NARROW_MOST (get_or c.as_slice-numbers.result.now c.args.first (pos 0)) (values_in c.as_slice-numbers.result.now k) c.args.from c.args.to) (sym c.as_slice-known.ensures.value)
    (subst (λ n. StaysWithin g.J.Join.joins NARROW_MOST (get_or n c.args.first (pos 0)) (values_in n lane.known.items) c.args.from c.args.to) numbers stays))

pub wide_from-requires-clause-fits : goal.wide_from-requires-clause-fits
wide_from-requires-clause-fits g c =
    let lane = c.args.lane.now in
    let fits : FitsSigned w128 c.get.result = search rules in
    let small : lane.bound ≤ WIDE_MOST = omega (arith, c.requires.small.few) in
    let stays = lane_stays g.J.Join.joins WIDE_MOST lane c.args.first c.args.from c.args.to c.requires.chooses c.requires.small c.requires.first small in
    subst (λ z. StaysWithin g.J.Join.joins WIDE_MOST z (values_in (numbers_of lane.numbers) c.as_slice-known.result.now) c.args.from c.args.to) (sym (to_z-of_z w128 _ fits ∙ c.get.ensures))
    (subst (λ k. StaysWithin g.J.Join.joins WIDE_MOST (get_or (numbers_of lane.numbers) c.args.first (pos 0)) (values_in (numbers_of lane.numbers) k) c.args.from c.args.to) (sym c.as_slice-known.ensures.value) stays)
