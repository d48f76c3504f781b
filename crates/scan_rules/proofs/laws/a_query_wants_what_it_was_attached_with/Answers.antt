use Rattle.scan_rules.proofs.Callers.{wanted_is_attached}
use Rattle.scan_rules.proofs.laws.a_query_wants_what_it_was_attached_with.Goals as goal

pub returns : goal.returns
returns c = wanted_is_attached
