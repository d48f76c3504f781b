use Rattle.std.proofs.Common.{refl}
use Rattle.value_rules.proofs.Trees.{trees}
use Rattle.value_rules.proofs.examples.values_of_rows.Goals as goal

pub returns-clause-there : goal.returns-clause-there
returns-clause-there c = simp trees refl

pub returns-clause-null : goal.returns-clause-null
returns-clause-null c = simp trees refl
