use Rattle.std.proofs.Common.{refl}
use Rattle.value_rules.proofs.Trees.{trees}
use Rattle.value_rules.proofs.examples.tests_of_columns.Goals as goal

pub returns-clause-right : goal.returns-clause-right
returns-clause-right c = simp trees refl

pub returns-clause-left : goal.returns-clause-left
returns-clause-left c = simp trees refl

pub returns-clause-minus : goal.returns-clause-minus
returns-clause-minus c = simp trees refl

pub returns-clause-negated : goal.returns-clause-negated
returns-clause-negated c = simp trees refl

pub returns-clause-columns : goal.returns-clause-columns
returns-clause-columns c = simp trees refl

pub returns-clause-numbers : goal.returns-clause-numbers
returns-clause-numbers c = simp trees refl

pub returns-clause-computed : goal.returns-clause-computed
returns-clause-computed c = simp trees refl

pub returns-clause-range : goal.returns-clause-range
returns-clause-range c = simp trees refl
