use Rattle.transcript_rules.proofs.Steps.{explained_is_its_plan, told_by}
use Rattle.transcript_rules.proofs.laws.a_plan_is_its_block.Goals as goal

pub returns-clause-planned : goal.returns-clause-planned
returns-clause-planned c = explained_is_its_plan

pub returns-clause-refused : goal.returns-clause-refused
returns-clause-refused c = told_by
