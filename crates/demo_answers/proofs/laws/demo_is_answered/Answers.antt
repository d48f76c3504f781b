use Rattle.demo_answers.proofs.Queries.{demo_is_answered, lines_are}
use Rattle.demo_answers.proofs.laws.demo_is_answered.Goals as goal

pub returns-clause-lines : goal.returns-clause-lines
returns-clause-lines c = lines_are

pub returns-clause-answered : goal.returns-clause-answered
returns-clause-answered c = demo_is_answered
