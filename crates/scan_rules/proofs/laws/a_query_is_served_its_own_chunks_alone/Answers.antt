use Rattle.scan_rules.proofs.Serving.{never_served}
use Rattle.scan_rules.proofs.laws.a_query_is_served_its_own_chunks_alone.Goals as goal

pub returns : goal.returns
returns c ring past q chunk run apart = never_served past q chunk run apart
