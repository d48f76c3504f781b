use Rattle.scan_rules.proofs.Serving.{served_once}
use Rattle.scan_rules.proofs.laws.a_query_is_served_each_chunk_at_most_once.Goals as goal

pub returns : goal.returns
returns c ring past q chunk run = served_once past q chunk run
