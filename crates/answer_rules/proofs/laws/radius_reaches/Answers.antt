use Rattle.answer_rules.proofs.Planned.{radius_reaches, radius_reaches_over}
use Rattle.answer_rules.proofs.laws.radius_reaches.Goals as goal

pub returns-clause-plan : goal.returns-clause-plan
returns-clause-plan c = radius_reaches

pub returns-clause-over : goal.returns-clause-over
returns-clause-over c = radius_reaches_over
