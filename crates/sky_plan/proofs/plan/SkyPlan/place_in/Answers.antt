use Rattle.std.proofs.Common.{rules, ℤ, ◌≤ℤ◌, ◌<ℤ◌, ◌≤◌, ◌<◌, ◌/◌, ◌∙◌, arith, ap, subst, sym, w64, FitsSigned}
use Rattle.std.proofs.lemmas.Int.{to_z-of_z}
use Rattle.sky_vector.specs.Pos.{point}
use Rattle.sky_rules.specs.Partition.{Stripe}
use Rattle.sky_rules.proofs.Rows.{row_below}
use Rattle.sky_plan.specs.Sites.{HasHeight}
use Rattle.sky_plan.proofs.Stripes.{counted_at}
use Rattle.sky_plan.proofs.Places.{place_shown}
use Rattle.sky_plan.proofs.plan.SkyPlan.place_in.Goals as goal

pub overflow_add-result : goal.overflow_add-result
overflow_add-result c =
    let g = c.args.self.now in
    let n = c.args.number in
    let is = c.stripe_numbered-stripe.ensures in
    let stripe = c.stripe.view_is ∙ is.value in
    let some = subst (λ (s : Stripe). 1 ≤ s.columns) (sym c.stripe.view_is) is.limits.some_columns in
    let wedge = row_below c.wedge_of-fine.result c.stripe.inside.chunks c.stripe.inside.columns some c.wedge_of-fine.ensures.inside in
    let there = subst (λ chunks. c.wedge_of-fine.result / c.stripe.inside.columns < chunks) (ap (λ (s : Stripe). s.chunks) stripe) wedge in
    let counted = counted_at g n (c.wedge_of-fine.result / c.stripe.inside.columns) c.requires.spans.there there in
    let few = is.sky.few_chunks in
    omega (arith, counted, few, c.first_of.ensures)

pub returns : goal.returns
returns c =
    let g = c.args.self.now in
    let p = point c.args.p.now in
    let is = c.stripe_numbered-stripe.ensures in
    let stripe = c.stripe.view_is ∙ is.value in
    let some = subst (λ (s : Stripe). 1 ≤ s.columns) (sym c.stripe.view_is) is.limits.some_columns in
    let wedge = row_below c.wedge_of-fine.result c.stripe.inside.chunks c.stripe.inside.columns some c.wedge_of-fine.ensures.inside in
    let fits : FitsSigned w64 c.args.p.now.z = search rules in
    let row = subst (λ (z : ℤ). HasHeight c.site_in.result (c.sub_at.result / c.site_in.result.stripe.columns) z) (to_z-of_z w64 c.args.p.now.z fits) c.sub_at.ensures.row in
    place_shown g c.args.number c.wedge_of-fine.result c.sub_at.result c.stripe.inside.chunks c.stripe.inside.columns c.first_of.result c.site_in.result p
    is.sky c.requires.admissible c.requires.spans.there (ap (λ (s : Stripe). s.chunks) stripe) (ap (λ (s : Stripe). s.columns) stripe)
    c.first_of.ensures c.site_in.ensures wedge c.wedge_of-fine.ensures.holds c.sub_at.ensures.there row c.sub_at.ensures.column
