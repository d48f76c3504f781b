use Rattle.std.proofs.Common.{rules, ◌≡◌, ◌<◌, subst, w64, ℤ, FitsSigned}
use Rattle.std.proofs.lemmas.Int.{to_z-of_z}
use Rattle.sky_plan.specs.Sites.{HasHeight}
use Rattle.sky_plan.proofs.RowOf.{sub_row}
use Rattle.sky_plan.proofs.site.Site.sub_at.Goals as goal

pub returns-clause-row : goal.returns-clause-row
returns-clause-row c =
    let columns : c.self-inside.inside.0.0.columns ≡ c.args.self.now.stripe.columns = search rules in
    let column : c.args.column < c.self-inside.inside.0.0.columns = search rules in
    let fits : FitsSigned w64 c.args.z = search rules in
    let row = subst (λ (z : ℤ). HasHeight c.args.self.now c.row_of.result z) (to_z-of_z w64 c.args.z fits) c.row_of.ensures in
    sub_row c.args.self.now c.args.z _ _ _ columns column row
