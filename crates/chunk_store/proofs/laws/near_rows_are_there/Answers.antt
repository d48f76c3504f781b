use Rattle.chunk_store.proofs.SubLaws.{near_rows_are_there}
use Rattle.chunk_store.proofs.laws.near_rows_are_there.Goals as goal

pub returns : goal.returns
returns c = near_rows_are_there
