use Rattle.bind_rules.proofs.WrittenTruths.{where_is_its_conjuncts, bound_conjuncts_say_the_same}
use Rattle.bind_rules.proofs.laws.conjuncts_hold_where_the_condition_does.Goals as goal

pub returns-clause-all : goal.returns-clause-all
returns-clause-all c = where_is_its_conjuncts

pub returns-clause-bound : goal.returns-clause-bound
returns-clause-bound c = bound_conjuncts_say_the_same
