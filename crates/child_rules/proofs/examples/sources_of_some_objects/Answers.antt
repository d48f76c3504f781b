use Rattle.std.proofs.Common.{refl}
use Rattle.wedge_rules.specs.Heading.{heading, walk}
use Rattle.value_rules.proofs.Trees.{trees}
use Rattle.child_rules.proofs.examples.sources_of_some_objects.Goals as goal

pub returns-clause-point : goal.returns-clause-point
unfolding heading walk
returns-clause-point c = simp trees refl

pub returns-clause-plan : goal.returns-clause-plan
unfolding heading walk
returns-clause-plan c = refl

pub returns-clause-id : goal.returns-clause-id
unfolding heading walk
returns-clause-id c = simp trees refl

pub returns-clause-its : goal.returns-clause-its
unfolding heading walk
returns-clause-its c = refl

pub returns-clause-time : goal.returns-clause-time
unfolding heading walk
returns-clause-time c = simp trees refl

pub returns-clause-order : goal.returns-clause-order
unfolding heading walk
returns-clause-order c = simp trees refl
