use Rattle.sky_vector.proofs.Plane.{near_across}
use Rattle.sky_vector.proofs.laws.near_across.Goals as goal

pub returns : goal.returns
returns c = near_across
