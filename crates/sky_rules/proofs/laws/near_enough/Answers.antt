use Rattle.sky_rules.proofs.OnlyPlace.{near_enough}
use Rattle.sky_rules.proofs.laws.near_enough.Goals as goal

pub returns : goal.returns
returns c = near_enough
