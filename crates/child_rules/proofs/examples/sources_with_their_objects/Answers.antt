use Rattle.std.proofs.Common.{refl}
use Rattle.wedge_rules.specs.Heading.{heading, walk}
use Rattle.value_rules.proofs.Trees.{trees}
use Rattle.child_rules.proofs.examples.sources_with_their_objects.Goals as goal

pub returns-clause-all : goal.returns-clause-all
unfolding heading walk
returns-clause-all c = simp trees refl

pub returns-clause-plan : goal.returns-clause-plan
unfolding heading walk
returns-clause-plan c = refl

pub returns-clause-none : goal.returns-clause-none
unfolding heading walk
returns-clause-none c = refl

pub returns-clause-chunk : goal.returns-clause-chunk
unfolding heading walk
returns-clause-chunk c = simp trees refl
