use Rattle.chunk_rules.proofs.RowsTaken.{rows_at_places}
use Rattle.chunk_rules.proofs.laws.rows_at_places.Goals as goal

pub returns : goal.returns
returns c = rows_at_places
