use Rattle.std.proofs.Common.{rules, ◌≡◌, ◌+◌, ◌/◌, ◌<◌, arith, subst, sym}
use Rattle.sky_rules.proofs.Rows.{row_below}
use Rattle.sky_plan.specs.Sites.{IsPlaced}
use Rattle.sky_plan.proofs.RowOf.{row_in_sky, rows_rise}
use Rattle.sky_plan.proofs.site.Site.sub_region.Goals as goal

pub of_wedge-requires-clause-high_end : goal.of_wedge-requires-clause-high_end
of_wedge-requires-clause-high_end c =
    let site = c.args.self.now in
    let is = subst IsPlaced c.self.view_is c.self.invariant in
    let columns : c.self-inside.inside.0.0.columns ≡ c.args.self.now.stripe.columns = search rules in
    let there = row_below c.args.sub site.stripe.rows site.stripe.columns is.stripe.some_columns c.requires in
    let below = subst (λ m. c.args.sub / m < site.stripe.rows) (sym columns) there in
    row_in_sky site (c.args.sub / c.self-inside.inside.0.0.columns + 1) c.row_start-2.result is (omega (arith, below)) c.row_start-2.ensures

pub of_wedge-requires-clause-some_height : goal.of_wedge-requires-clause-some_height
of_wedge-requires-clause-some_height c =
    let site = c.args.self.now in
    let is = subst IsPlaced c.self.view_is c.self.invariant in
    let columns : c.self-inside.inside.0.0.columns ≡ c.args.self.now.stripe.columns = search rules in
    let there = row_below c.args.sub site.stripe.rows site.stripe.columns is.stripe.some_columns c.requires in
    let below = subst (λ m. c.args.sub / m < site.stripe.rows) (sym columns) there in
    rows_rise site (c.args.sub / c.self-inside.inside.0.0.columns) c.row_start.result c.row_start-2.result is below c.row_start.ensures c.row_start-2.ensures
