use Rattle.std.proofs.Common.{refl}
use Rattle.wedge_rules.specs.Heading.{heading, walk}
use Rattle.value_rules.proofs.Trees.{trees}
use Rattle.child_rules.proofs.examples.sources_of_one_object.Goals as goal

pub returns-clause-id : goal.returns-clause-id
unfolding heading walk
returns-clause-id c = simp trees refl

pub returns-clause-plan : goal.returns-clause-plan
unfolding heading walk
returns-clause-plan c = refl
