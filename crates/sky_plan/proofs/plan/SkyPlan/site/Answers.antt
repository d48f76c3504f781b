use Rattle.std.proofs.Common.{◌∙◌, ◌-◌, ap, sym}
use Rattle.sky_plan.specs.Sites.{site_numbered}
use Rattle.sky_plan.proofs.Stripes.{chunk_with}
use Rattle.sky_plan.proofs.plan.SkyPlan.site.Goals as goal

pub returns : goal.returns
returns c =
    let g = c.args.self.now in
    let n = c.stripe_with-number.result in
    let has = c.stripe_with-number.ensures in
    c.site_in.ensures ∙ ap (λ first. site_numbered g n (c.args.chunk - first)) c.first_of.ensures
    ∙ sym (chunk_with g n c.args.chunk has.there has.low has.high).1
