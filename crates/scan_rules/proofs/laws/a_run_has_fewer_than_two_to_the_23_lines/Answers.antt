use Rattle.scan_rules.proofs.Lengths.{run_is_short}
use Rattle.scan_rules.proofs.laws.a_run_has_fewer_than_two_to_the_23_lines.Goals as goal

pub returns : goal.returns
returns c ring past small run = run_is_short past small run
