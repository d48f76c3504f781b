use Rattle.value_rules.proofs.Negation.{and_table, or_table, not_table}
use Rattle.value_rules.proofs.laws.three_values.Goals as goal

pub returns-clause-and : goal.returns-clause-and
returns-clause-and c = and_table

pub returns-clause-or : goal.returns-clause-or
returns-clause-or c = or_table

pub returns-clause-not : goal.returns-clause-not
returns-clause-not c = not_table
