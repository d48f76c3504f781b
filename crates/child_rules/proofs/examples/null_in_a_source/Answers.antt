use Rattle.std.proofs.Common.{refl}
use Rattle.wedge_rules.specs.Heading.{heading, walk}
use Rattle.value_rules.proofs.Trees.{trees}
use Rattle.child_rules.proofs.examples.null_in_a_source.Goals as goal

pub returns-clause-item : goal.returns-clause-item
unfolding heading walk
returns-clause-item c = simp trees refl

pub returns-clause-test : goal.returns-clause-test
unfolding heading walk
returns-clause-test c = simp trees refl
