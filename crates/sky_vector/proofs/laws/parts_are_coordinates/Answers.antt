use Rattle.sky_vector.proofs.Coordinates.{coordinates}
use Rattle.sky_vector.proofs.laws.parts_are_coordinates.Goals as goal

pub returns : goal.returns
returns c = coordinates
