use Rattle.bind_rules.proofs.Soundness.{values_are_in_range}
use Rattle.bind_rules.proofs.laws.values_are_in_range.Goals as goal

pub returns : goal.returns
returns c = values_are_in_range
