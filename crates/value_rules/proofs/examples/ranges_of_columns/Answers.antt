use Rattle.std.proofs.Common.{refl}
use Rattle.value_rules.proofs.Trees.{trees}
use Rattle.value_rules.proofs.examples.ranges_of_columns.Goals as goal

pub returns-clause-between : goal.returns-clause-between
returns-clause-between c = simp trees refl

pub returns-clause-negated : goal.returns-clause-negated
returns-clause-negated c = simp trees refl

pub returns-clause-not_between : goal.returns-clause-not_between
returns-clause-not_between c = simp trees refl

pub returns-clause-computed : goal.returns-clause-computed
returns-clause-computed c = simp trees refl

pub returns-clause-columns : goal.returns-clause-columns
returns-clause-columns c = simp trees refl

pub returns-clause-turned : goal.returns-clause-turned
returns-clause-turned c = simp trees refl

pub returns-clause-band : goal.returns-clause-band
returns-clause-band c = simp trees refl

pub returns-clause-boxed : goal.returns-clause-boxed
returns-clause-boxed c = simp trees refl

pub returns-clause-test : goal.returns-clause-test
returns-clause-test c = simp trees refl
