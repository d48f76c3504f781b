use Rattle.answer_rules.proofs.IdChunks.{ids_by_their_chunks}
use Rattle.answer_rules.proofs.laws.ids_by_their_chunks.Goals as goal

pub returns : goal.returns
returns c = ids_by_their_chunks
