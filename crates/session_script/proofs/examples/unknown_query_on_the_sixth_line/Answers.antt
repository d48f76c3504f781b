use Rattle.std.proofs.Common.{refl}
use Rattle.session_script.specs.Scripts.{steps_from}
use Rattle.session_script.proofs.examples.unknown_query_on_the_sixth_line.Goals as goal

pub returns : goal.returns
unfolding steps_from
returns c = refl
