use Rattle.std.proofs.Common.{refl}
use Rattle.value_rules.proofs.Trees.{trees}
use Rattle.value_rules.proofs.examples.null_stays.Goals as goal

pub returns-clause-right : goal.returns-clause-right
returns-clause-right c = simp trees refl

pub returns-clause-minus : goal.returns-clause-minus
returns-clause-minus c = simp trees refl

pub returns-clause-number : goal.returns-clause-number
returns-clause-number c = simp trees refl

pub returns-clause-among : goal.returns-clause-among
returns-clause-among c = simp trees refl

pub returns-clause-found : goal.returns-clause-found
returns-clause-found c = simp trees refl

pub returns-clause-not_found : goal.returns-clause-not_found
returns-clause-not_found c = simp trees refl
