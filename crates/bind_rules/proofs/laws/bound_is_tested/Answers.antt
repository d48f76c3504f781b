use Rattle.bind_rules.proofs.Tested.{bound_is_tested}
use Rattle.bind_rules.proofs.laws.bound_is_tested.Goals as goal

pub returns : goal.returns
returns c = bound_is_tested
