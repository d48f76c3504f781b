use Rattle.transcript_rules.proofs.Steps.{work_is_a_plan}
use Rattle.transcript_rules.proofs.laws.work_is_a_plan.Goals as goal

pub returns : goal.returns
returns c = work_is_a_plan
