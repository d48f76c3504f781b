use Rattle.sky_rules.proofs.Accepted.{accepted_is_within_limits}
use Rattle.sky_rules.proofs.laws.accepted_is_within_limits.Goals as goal

pub returns : goal.returns
returns c = accepted_is_within_limits
