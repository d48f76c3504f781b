use Rattle.child_rules.proofs.Finished.{child_answer_is_flat, child_plan_covers}
use Rattle.child_rules.proofs.laws.child_answer_is_flat.Goals as goal

pub returns-clause-all : goal.returns-clause-all
returns-clause-all c = child_answer_is_flat

pub returns-clause-plan : goal.returns-clause-plan
returns-clause-plan c = child_plan_covers
