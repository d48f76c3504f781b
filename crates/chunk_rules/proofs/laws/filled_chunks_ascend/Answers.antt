use Rattle.chunk_rules.proofs.FilledChunks.{each_filled_is_listed, filled_are_chunks, filled_ascend}
use Rattle.chunk_rules.proofs.laws.filled_chunks_ascend.Goals as goal

pub returns-clause-there : goal.returns-clause-there
returns-clause-there c = filled_are_chunks

pub returns-clause-ascend : goal.returns-clause-ascend
returns-clause-ascend c = filled_ascend

pub returns-clause-all : goal.returns-clause-all
returns-clause-all c = each_filled_is_listed
