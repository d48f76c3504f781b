use Rattle.value_rules.proofs.ColumnTests.{column_first, number_first, between_is_a_range, brackets_do_not_count}
use Rattle.value_rules.proofs.column_laws.which_conditions_are_tests.Goals as goal

pub returns-clause-column_first : goal.returns-clause-column_first
returns-clause-column_first c = column_first

pub returns-clause-number_first : goal.returns-clause-number_first
returns-clause-number_first c = number_first

pub returns-clause-between : goal.returns-clause-between
returns-clause-between c = between_is_a_range

pub returns-clause-brackets : goal.returns-clause-brackets
returns-clause-brackets c = brackets_do_not_count
