use Rattle.bind_rules.proofs.TopAreas.{areas_are_conjuncts}
use Rattle.bind_rules.proofs.laws.areas_are_conjuncts.Goals as goal

pub returns : goal.returns
returns c = areas_are_conjuncts
