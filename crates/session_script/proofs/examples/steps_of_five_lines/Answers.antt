use Rattle.std.proofs.Common.{refl}
use Rattle.session_script.specs.Scripts.{steps_from}
use Rattle.session_script.proofs.examples.steps_of_five_lines.Goals as goal

pub returns : goal.returns
unfolding steps_from
returns c = refl
