use Rattle.std.proofs.Common.{refl}
use Rattle.wedge_rules.specs.Heading.{heading, walk}
use Rattle.value_rules.proofs.Trees.{trees}
use Rattle.answer_rules.proofs.examples.limit_in_the_chunks.Goals as goal

pub returns-clause-kept : goal.returns-clause-kept
unfolding heading walk
returns-clause-kept c = simp trees refl

pub returns-clause-other : goal.returns-clause-other
unfolding heading walk
returns-clause-other c = simp trees refl

pub returns-clause-merged : goal.returns-clause-merged
returns-clause-merged c = refl

pub returns-clause-answer : goal.returns-clause-answer
unfolding heading walk
returns-clause-answer c = simp trees refl
