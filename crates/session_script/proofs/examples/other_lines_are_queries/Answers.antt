use Rattle.std.proofs.Common.{refl}
use Rattle.session_script.specs.Scripts.{steps_from}
use Rattle.session_script.proofs.examples.other_lines_are_queries.Goals as goal

pub returns-clause-last : goal.returns-clause-last
unfolding steps_from
returns-clause-last c = refl

pub returns-clause-words : goal.returns-clause-words
unfolding steps_from
returns-clause-words c = refl

pub returns-clause-spaces : goal.returns-clause-spaces
unfolding steps_from
returns-clause-spaces c = refl

pub returns-clause-ten : goal.returns-clause-ten
unfolding steps_from
returns-clause-ten c = refl

pub returns-clause-nine : goal.returns-clause-nine
unfolding steps_from
returns-clause-nine c = refl
