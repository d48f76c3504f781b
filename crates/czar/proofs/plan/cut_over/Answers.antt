use Rattle.std.proofs.Common.{ap}
use Rattle.query_ends.specs.declared.plan.QueryPlan.TheVariants.{Planned}
use Rattle.czar.proofs.plan.cut_over.Goals as goal

pub returns-in-Ok : goal.returns-in-Ok
returns-in-Ok c = ap (λ q. Planned c.args.tree q c.args.chunks) c.in-Ok.ensures
