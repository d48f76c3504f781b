use Rattle.wedge_rules.proofs.Exactly.{fine_lies_in_its_wedge}
use Rattle.wedge_rules.proofs.laws.fine_lies_in_its_wedge.Goals as goal

pub returns : goal.returns
returns c = fine_lies_in_its_wedge
