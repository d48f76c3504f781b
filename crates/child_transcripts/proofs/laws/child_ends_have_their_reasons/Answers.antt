use Rattle.child_transcripts.proofs.ChildBlockSteps.{answered_shows_its_answer, refused_has_its_child_reason}
use Rattle.child_transcripts.proofs.laws.child_ends_have_their_reasons.Goals as goal

pub returns-clause-answered : goal.returns-clause-answered
returns-clause-answered c = answered_shows_its_answer

pub returns-clause-refused : goal.returns-clause-refused
returns-clause-refused c = refused_has_its_child_reason
