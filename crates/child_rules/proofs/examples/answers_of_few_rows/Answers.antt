use Rattle.std.proofs.Common.{refl}
use Rattle.wedge_rules.specs.Heading.{heading, walk}
use Rattle.value_rules.proofs.Trees.{trees}
use Rattle.child_rules.proofs.examples.answers_of_few_rows.Goals as goal

pub returns-clause-limit : goal.returns-clause-limit
unfolding heading walk
returns-clause-limit c = refl

pub returns-clause-one : goal.returns-clause-one
unfolding heading walk
returns-clause-one c = simp trees refl

pub returns-clause-objects : goal.returns-clause-objects
unfolding heading walk
returns-clause-objects c = refl

pub returns-clause-both : goal.returns-clause-both
unfolding heading walk
returns-clause-both c = refl

pub returns-clause-plan : goal.returns-clause-plan
unfolding heading walk
returns-clause-plan c = refl
