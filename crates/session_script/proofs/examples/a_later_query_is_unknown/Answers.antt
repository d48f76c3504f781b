use Rattle.std.proofs.Common.{refl}
use Rattle.session_script.specs.Scripts.{steps_from}
use Rattle.session_script.proofs.examples.a_later_query_is_unknown.Goals as goal

pub returns : goal.returns
unfolding steps_from
returns c = refl
