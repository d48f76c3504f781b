use Rattle.std.proofs.Common.{refl, arith}
use Rattle.session_script.specs.Scripts.{steps_from}
use Rattle.demo_answers.proofs.texts.demo_script_is_accepted.Goals as goal

pub returns-clause-steps : goal.returns-clause-steps
unfolding steps_from
returns-clause-steps c = refl

pub returns-clause-short : goal.returns-clause-short
returns-clause-short c = omega arith
