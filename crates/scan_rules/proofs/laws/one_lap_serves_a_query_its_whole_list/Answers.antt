use Rattle.scan_rules.proofs.Laps.{lap_serves_all, lap_repeats_none}
use Rattle.scan_rules.proofs.laws.one_lap_serves_a_query_its_whole_list.Goals as goal

pub returns : goal.returns
returns c = record { whole = lap_serves_all; different = lap_repeats_none }
