use Rattle.value_rules.proofs.Negation.{not_is_negation, not_between, not_among, not_null}
use Rattle.value_rules.proofs.laws.not_is_negation.Goals as goal

pub returns-clause-not : goal.returns-clause-not
returns-clause-not c = not_is_negation

pub returns-clause-between : goal.returns-clause-between
returns-clause-between c = not_between

pub returns-clause-among : goal.returns-clause-among
returns-clause-among c = not_among

pub returns-clause-null : goal.returns-clause-null
returns-clause-null c = not_null
