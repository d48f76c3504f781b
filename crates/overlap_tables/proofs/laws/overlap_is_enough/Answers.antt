use Rattle.overlap_tables.proofs.Listed.{overlap_is_enough}
use Rattle.overlap_tables.proofs.laws.overlap_is_enough.Goals as goal

pub returns : goal.returns
returns c = overlap_is_enough
