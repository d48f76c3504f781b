use Rattle.child_transcripts.proofs.ChildInverting.{can_be_run}
use Rattle.child_transcripts.proofs.laws.bound_can_be_run.Goals as goal

pub returns : goal.returns
returns c = can_be_run c.bound_is_child.ensures
