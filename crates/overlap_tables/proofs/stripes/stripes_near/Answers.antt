use Rattle.std.proofs.Common.{rules, ℤ, ◌≤ℤ◌, ◌<ℤ◌, arith, subst, sym, w64, FitsSigned}
use Rattle.std.proofs.lemmas.Int.{to_z-of_z}
use Rattle.sky_vector.specs.Pos.{point}
use Rattle.sky_rules.specs.Partition.{sky_bottom, sky_end}
use Rattle.sky_plan.specs.Sites.{SpansHeight}
use Rattle.sky_plan.proofs.Places.{height_in_sky}
use Rattle.overlap_tables.proofs.InStripe.{others_had}
use Rattle.overlap_tables.proofs.stripes.stripes_near.Goals as goal

pub lowest-requires-clause-bottom : goal.lowest-requires-clause-bottom
lowest-requires-clause-bottom c =
    let fits : FitsSigned w64 c.args.p.now.z = search rules in
    subst (λ (z : ℤ). sky_bottom ≤ℤ z) (sym (to_z-of_z w64 c.args.p.now.z fits)) (height_in_sky (point c.args.p.now) c.requires.admissible).0

pub lowest-requires-clause-end : goal.lowest-requires-clause-end
lowest-requires-clause-end c =
    let fits : FitsSigned w64 c.args.p.now.z = search rules in
    subst (λ (z : ℤ). z <ℤ sky_end) (sym (to_z-of_z w64 c.args.p.now.z fits)) (height_in_sky (point c.args.p.now) c.requires.admissible).1

pub highest-requires-clause-end : goal.highest-requires-clause-end
highest-requires-clause-end c =
    let fits : FitsSigned w64 c.args.p.now.z = search rules in
    subst (λ (z : ℤ). z <ℤ sky_end) (sym (to_z-of_z w64 c.args.p.now.z fits)) (height_in_sky (point c.args.p.now) c.requires.admissible).1

pub overflow_add-result : goal.overflow_add-result
overflow_add-result c =
    let few = c.greatest_radius-reach.ensures.limits.few in
    let there = c.stripe_beside-last.ensures.there in omega (arith, few, there)

pub returns : goal.returns
returns c =
    let g = c.args.plan.now in
    let fits : FitsSigned w64 c.args.p.now.z = search rules in
    let low_fits : FitsSigned w64 c.lowest.result = search rules in
    let high_fits : FitsSigned w64 c.highest.result = search rules in
    let from = subst (λ (z : ℤ). SpansHeight g c.stripe_beside-from.result z) (to_z-of_z w64 c.lowest.result low_fits) c.stripe_beside-from.ensures in
    let last = subst (λ (z : ℤ). SpansHeight g c.stripe_beside-last.result z) (to_z-of_z w64 c.highest.result high_fits) c.stripe_beside-last.ensures in
    others_had g (point c.args.p.now) c.stripe_beside-from.result c.stripe_beside-last.result c.greatest_radius-reach.result _ c.lowest.result c.highest.result
    (to_z-of_z w64 c.args.p.now.z fits) c.greatest_radius-reach.ensures.limits c.greatest_radius-reach.ensures.covers from last
    c.lowest.ensures.below c.highest.ensures.above c.lowest.ensures.reaches c.highest.ensures.reaches
