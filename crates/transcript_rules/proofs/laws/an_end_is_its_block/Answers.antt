use Rattle.transcript_rules.proofs.Steps.{answered_is_its_table, cancelled_by, refused_by, spent_by}
use Rattle.transcript_rules.proofs.laws.an_end_is_its_block.Goals as goal

pub returns-clause-answered : goal.returns-clause-answered
returns-clause-answered c = answered_is_its_table

pub returns-clause-refused : goal.returns-clause-refused
returns-clause-refused c = refused_by

pub returns-clause-cancelled : goal.returns-clause-cancelled
returns-clause-cancelled c = cancelled_by

pub returns-clause-spent : goal.returns-clause-spent
returns-clause-spent c = spent_by
