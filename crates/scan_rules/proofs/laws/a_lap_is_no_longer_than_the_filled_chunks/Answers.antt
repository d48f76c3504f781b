use Rattle.scan_rules.proofs.Wishes.{lap_is_filled}
use Rattle.scan_rules.proofs.laws.a_lap_is_no_longer_than_the_filled_chunks.Goals as goal

pub returns : goal.returns
returns c = lap_is_filled
