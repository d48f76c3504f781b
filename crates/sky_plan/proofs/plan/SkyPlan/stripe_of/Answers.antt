use Rattle.std.proofs.Common.{rules, ℤ, ◌≤ℤ◌, ◌<ℤ◌, subst, sym, w64, FitsSigned}
use Rattle.std.proofs.lemmas.Int.{to_z-of_z}
use Rattle.sky_vector.specs.Pos.{point}
use Rattle.sky_rules.specs.Partition.{sky_bottom, sky_end}
use Rattle.sky_plan.proofs.Places.{height_in_sky}
use Rattle.sky_plan.proofs.plan.SkyPlan.stripe_of.Goals as goal

pub stripe_at-requires-clause-bottom : goal.stripe_at-requires-clause-bottom
stripe_at-requires-clause-bottom c =
    let fits : FitsSigned w64 c.args.p.now.z = search rules in
    subst (λ (z : ℤ). sky_bottom ≤ℤ z) (sym (to_z-of_z w64 c.args.p.now.z fits)) (height_in_sky (point c.args.p.now) c.requires).0

pub stripe_at-requires-clause-end : goal.stripe_at-requires-clause-end
stripe_at-requires-clause-end c =
    let fits : FitsSigned w64 c.args.p.now.z = search rules in
    subst (λ (z : ℤ). z <ℤ sky_end) (sym (to_z-of_z w64 c.args.p.now.z fits)) (height_in_sky (point c.args.p.now) c.requires).1
