use Rattle.child_transcripts.proofs.ChildRefusing.{refused_before_it_runs}
use Rattle.child_transcripts.proofs.laws.child_refused_before_it_runs.Goals as goal

pub returns : goal.returns
returns c = refused_before_it_runs
