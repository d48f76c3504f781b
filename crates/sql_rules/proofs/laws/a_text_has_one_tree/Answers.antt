use Rattle.sql_rules.proofs.Law.{one_tree, nothing}
use Rattle.sql_rules.proofs.laws.a_text_has_one_tree.Goals as goal

pub returns-clause-one : goal.returns-clause-one
returns-clause-one c = one_tree

pub returns-clause-none : goal.returns-clause-none
returns-clause-none c = nothing
