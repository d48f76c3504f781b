use Rattle.answer_rules.proofs.Planned.{plan_ascends, plan_is_filled}
use Rattle.answer_rules.proofs.laws.plan_is_filled.Goals as goal

pub returns-clause-filled : goal.returns-clause-filled
returns-clause-filled c = plan_is_filled

pub returns-clause-ascend : goal.returns-clause-ascend
returns-clause-ascend c = plan_ascends
