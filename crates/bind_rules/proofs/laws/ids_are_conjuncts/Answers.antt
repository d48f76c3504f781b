use Rattle.bind_rules.proofs.TopIds.{ids_are_conjuncts}
use Rattle.bind_rules.proofs.laws.ids_are_conjuncts.Goals as goal

pub returns : goal.returns
returns c = ids_are_conjuncts
