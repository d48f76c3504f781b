use Rattle.std.proofs.Common.{refl}
use Rattle.value_rules.proofs.Trees.{trees}
use Rattle.value_rules.proofs.examples.null_is_among_nothing.Goals as goal

pub returns-clause-null : goal.returns-clause-null
returns-clause-null c = simp trees refl

pub returns-clause-found : goal.returns-clause-found
returns-clause-found c = simp trees refl

pub returns-clause-not_found : goal.returns-clause-not_found
returns-clause-not_found c = simp trees refl
