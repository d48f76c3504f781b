use Rattle.std.proofs.Common.{refl}
use Rattle.value_rules.proofs.Trees.{trees}
use Rattle.value_rules.proofs.examples.truths_without_flux.Goals as goal

pub returns-clause-alone : goal.returns-clause-alone
returns-clause-alone c = simp trees refl

pub returns-clause-and_true : goal.returns-clause-and_true
returns-clause-and_true c = simp trees refl

pub returns-clause-and_false : goal.returns-clause-and_false
returns-clause-and_false c = simp trees refl

pub returns-clause-or_true : goal.returns-clause-or_true
returns-clause-or_true c = simp trees refl

pub returns-clause-or_false : goal.returns-clause-or_false
returns-clause-or_false c = simp trees refl
