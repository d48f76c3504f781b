use Rattle.std.proofs.Common.{refl}
use Rattle.value_rules.proofs.Trees.{trees}
use Rattle.value_rules.proofs.examples.rows_without_flux.Goals as goal

pub returns : goal.returns
returns c = simp trees refl
