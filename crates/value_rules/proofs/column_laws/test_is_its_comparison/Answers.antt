use Rattle.value_rules.proofs.ColumnTests.{test_is_its_comparison}
use Rattle.value_rules.proofs.column_laws.test_is_its_comparison.Goals as goal

pub returns : goal.returns
returns c = test_is_its_comparison
