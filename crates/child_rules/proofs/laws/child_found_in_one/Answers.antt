use Rattle.child_rules.proofs.Scanning.{child_found_in_one}
use Rattle.child_rules.proofs.laws.child_found_in_one.Goals as goal

pub returns : goal.returns
returns c = child_found_in_one
