use Rattle.sky_plan.proofs.Counting.{IsCounted}
use Rattle.sky_plan.proofs.plan.SkyPlan.of.Given as goal

abbrev pub invariant-loop-stripe : goal.invariant-loop-stripe
invariant-loop-stripe l = IsCounted l.fn.stripes.items l.stripe-index l.firsts.items l.count
