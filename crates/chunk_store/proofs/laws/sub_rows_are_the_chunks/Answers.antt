use Rattle.chunk_store.proofs.SubLaws.{sub_rows_are_the_chunks}
use Rattle.chunk_store.proofs.laws.sub_rows_are_the_chunks.Goals as goal

pub returns : goal.returns
returns c = sub_rows_are_the_chunks
