use Rattle.bind_rules.proofs.BoundWhere.{conjuncts_are_bound, where_holds_as_bound}
use Rattle.bind_rules.proofs.laws.where_holds_as_bound.Goals as goal

pub returns-clause-whole : goal.returns-clause-whole
returns-clause-whole c = where_holds_as_bound

pub returns-clause-conditions : goal.returns-clause-conditions
returns-clause-conditions c = conjuncts_are_bound
