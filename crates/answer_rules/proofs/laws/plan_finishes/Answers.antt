use Rattle.answer_rules.proofs.Planned.{plan_finishes}
use Rattle.answer_rules.proofs.laws.plan_finishes.Goals as goal

pub returns : goal.returns
returns c = plan_finishes
