use Rattle.std.proofs.Common.{rules, tests, ◌∙◌, sym, ap, subst, unwrap_or, ◌≤◌, ◌^◌}
use Rattle.std.proofs.lemmas.Iterator.{YieldsList-from_slice, YieldsList-from_map}
use Rattle.std.proofs.lemmas.Iterator.Consumers.{min_from_yields_List}
use Rattle.std.proofs.lemmas.Iterator.Adapters.{option_map_id}
use Rattle.sky_rules.specs.Partition.{Stripe, least_overlap}
use Rattle.sky_plan.proofs.Least.{least_within}
use Rattle.sky_plan.proofs.plan.SkyPlan.least_radius.Goals as goal

pub returns-clause-value : goal.returns-clause-value
returns-clause-value c =
    let stripes = c.self.inside.stripes.items in
    let least = min_from_yields_List c.map.result _ c.min.ensures.ran (YieldsList-from_map _ (λ (s : Stripe). s.overlap) (YieldsList-from_slice stripes cc) c.map.ensures.closure (λ x b q k. search (rules, tests))) in
    c.unwrap_or.ensures ∙ ap (λ o. unwrap_or o 0) (sym (option_map_id _) ∙ least) ∙ ap least_overlap c.self.view_is

pub returns-clause-most : goal.returns-clause-most
returns-clause-most c =
    subst (λ n. n ≤ 2 ^ 24) (sym (returns-clause-value c ∙ ap least_overlap (sym c.self.view_is))) (least_within _ c.self.invariant.sky)
