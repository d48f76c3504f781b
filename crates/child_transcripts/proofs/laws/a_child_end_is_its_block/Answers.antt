use Rattle.child_transcripts.proofs.ChildBlockSteps.{child_answered, child_cancelled, child_refused, child_spent}
use Rattle.child_transcripts.proofs.laws.a_child_end_is_its_block.Goals as goal

pub returns-clause-answered : goal.returns-clause-answered
returns-clause-answered c = child_answered

pub returns-clause-refused : goal.returns-clause-refused
returns-clause-refused c = child_refused

pub returns-clause-cancelled : goal.returns-clause-cancelled
returns-clause-cancelled c = child_cancelled

pub returns-clause-spent : goal.returns-clause-spent
returns-clause-spent c = child_spent
