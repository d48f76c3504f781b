use Rattle.value_rules.proofs.ColumnTests.{absent_fails_test, absent_fails_range}
use Rattle.value_rules.proofs.column_laws.absent_value_fails.Goals as goal

pub returns-clause-test : goal.returns-clause-test
returns-clause-test c = absent_fails_test

pub returns-clause-range : goal.returns-clause-range
returns-clause-range c = absent_fails_range
