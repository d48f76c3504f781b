use Rattle.std.proofs.Common.{rules, ◌∙◌, sym, subst, w64, FitsSigned}
use Rattle.std.proofs.lemmas.Int.{to_z-of_z}
use Rattle.sky_plan.specs.Sites.{IsPlaced}
use Rattle.sky_plan.proofs.Stripes.{placed_at, same_site}
use Rattle.sky_plan.proofs.plan.SkyPlan.site_in.Goals as goal

pub new-requires : goal.new-requires
new-requires c =
    let g = c.args.self.now in
    let n = c.args.number in
    let w = c.args.wedge in
    let stripe = c.stripe_numbered.ensures in
    let fits : FitsSigned w64 c.end_of.result = search rules in
    let end = to_z-of_z w64 c.end_of.result fits ∙ c.end_of.ensures in
    subst IsPlaced (sym (same_site g n w c.stripe_numbered.result _ stripe.value end)) (placed_at g n w stripe.sky c.requires.stripe c.requires.wedge)
