use Rattle.scan_rules.proofs.Ends.{states_tell}
use Rattle.scan_rules.proofs.laws.a_query_runs_where_its_state_says_so.Goals as goal

pub returns : goal.returns
returns c = states_tell
