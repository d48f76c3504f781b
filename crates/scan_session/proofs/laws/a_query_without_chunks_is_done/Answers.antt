use Rattle.scan_session.proofs.Fitting.{empty_is_done}
use Rattle.scan_session.proofs.laws.a_query_without_chunks_is_done.Goals as goal

pub returns : goal.returns
returns c = empty_is_done
