use Rattle.scan_rules.proofs.Ends.{ended_stays}
use Rattle.scan_rules.proofs.laws.a_query_that_has_ended_stays_as_it_is.Goals as goal

pub returns : goal.returns
returns c ring front rest q state run ended = ended_stays front rest q state run ended
