use Rattle.std.proofs.Common.{rules, tests, ◌∙◌, sym, ap, unwrap_or}
use Rattle.std.proofs.lemmas.Iterator.{YieldsList-from_slice, YieldsList-from_map}
use Rattle.std.proofs.lemmas.Iterator.Consumers.{max_from_yields_List}
use Rattle.std.proofs.lemmas.Iterator.Adapters.{option_map_id}
use Rattle.sky_rules.specs.Partition.{Stripe}
use Rattle.sky_plan.proofs.stripe.greatest_of.Goals as goal

pub returns : goal.returns
returns c =
    let stripes = c.args.stripes.now in
    let most = max_from_yields_List c.map.result _ c.max.ensures.ran (YieldsList-from_map _ (λ (s : Stripe). s.overlap) (YieldsList-from_slice stripes cc) c.map.ensures.closure (λ x b q k. search (rules, tests))) in
    c.unwrap_or.ensures ∙ ap (λ o. unwrap_or o 0) (sym (option_map_id _) ∙ most)
