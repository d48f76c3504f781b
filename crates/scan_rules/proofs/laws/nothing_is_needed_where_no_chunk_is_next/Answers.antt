use Rattle.scan_rules.proofs.Callers.{nothing_is_needed}
use Rattle.scan_rules.proofs.laws.nothing_is_needed_where_no_chunk_is_next.Goals as goal

pub returns : goal.returns
returns c = nothing_is_needed
