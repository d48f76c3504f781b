use Rattle.value_rules.proofs.ColumnTests.{range_is_two_comparisons}
use Rattle.value_rules.proofs.column_laws.range_is_two_comparisons.Goals as goal

pub returns : goal.returns
returns c = range_is_two_comparisons
