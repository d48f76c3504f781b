use Rattle.std.proofs.Common.{refl}
use Rattle.session_script.specs.Scripts.{steps_from}
use Rattle.session_script.proofs.examples.notes_are_counted_as_lines.Goals as goal

pub returns-clause-steps : goal.returns-clause-steps
unfolding steps_from
returns-clause-steps c = refl

pub returns-clause-fault : goal.returns-clause-fault
unfolding steps_from
returns-clause-fault c = refl
