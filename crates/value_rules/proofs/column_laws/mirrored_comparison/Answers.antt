use Rattle.value_rules.proofs.ColumnTests.{mirrored_compares, mirrored_is_the_same, mirrored_twice}
use Rattle.value_rules.proofs.column_laws.mirrored_comparison.Goals as goal

pub returns-clause-values : goal.returns-clause-values
returns-clause-values c = mirrored_compares

pub returns-clause-conditions : goal.returns-clause-conditions
returns-clause-conditions c = mirrored_is_the_same

pub returns-clause-twice : goal.returns-clause-twice
returns-clause-twice c = mirrored_twice
