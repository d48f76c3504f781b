use Rattle.std.proofs.Common.{rules, ◌≡◌, subst, nat_abs, ◌-ℤ◌}
use Rattle.sky_plan.specs.Sites.{IsPlaced}
use Rattle.sky_plan.proofs.RowOf.{row_found_by}
use Rattle.sky_plan.proofs.site.Site.row_of.Goals as goal

pub returns : goal.returns
returns c =
    let rows : c.from-rows.result ≡ c.args.self.now.stripe.rows = search rules in
    let above : c.unsigned_abs-above.result ≡ nat_abs (c.args.z -ℤ c.args.self.now.stripe.z_low) = search rules in
    let is = subst IsPlaced c.self.view_is c.self.invariant in
    row_found_by c.args.self.now c.args.z _ _ _ is c.requires.low c.requires.high above rows c.height.ensures.value
