use Rattle.std.proofs.Common.{refl}
use Rattle.value_rules.proofs.Trees.{trees}
use Rattle.value_rules.proofs.examples.unknown_is_not_kept.Goals as goal

pub returns : goal.returns
returns c = simp trees refl
