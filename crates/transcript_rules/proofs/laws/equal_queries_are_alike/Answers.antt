use Rattle.transcript_rules.proofs.Ended.{equal_queries_are_alike}
use Rattle.transcript_rules.proofs.laws.equal_queries_are_alike.Goals as goal

pub returns : goal.returns
returns c = equal_queries_are_alike
