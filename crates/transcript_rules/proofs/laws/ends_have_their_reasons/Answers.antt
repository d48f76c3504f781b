use Rattle.transcript_rules.proofs.Ended.{refused_has_its_reason, cancelled_is_asked_for}
use Rattle.transcript_rules.proofs.Ended.{answered_unless_cancelled_or_spent}
use Rattle.transcript_rules.proofs.laws.ends_have_their_reasons.Goals as goal

pub returns-clause-refused : goal.returns-clause-refused
returns-clause-refused c = refused_has_its_reason

pub returns-clause-cancelled : goal.returns-clause-cancelled
returns-clause-cancelled c = cancelled_is_asked_for

pub returns-clause-answered : goal.returns-clause-answered
returns-clause-answered c = answered_unless_cancelled_or_spent
