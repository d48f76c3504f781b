use Rattle.std.proofs.Common.{codes}
use Rattle.sky_io.proofs.Writes.{wrote_one, wrote_two}
use Rattle.explain_text.proofs.explained.put_chunks.Goals as goal

pub returns-in-Failed : goal.returns-in-Failed
returns-in-Failed g c = wrote_one _ _ (codes "chunks:") _ c.in-Failed.ensures

pub returns-in-Done : goal.returns-in-Done
returns-in-Done g c = wrote_two _ _ _ (codes "chunks:") _ _ c.in-Done.ensures (rw c.as_slice.ensures.items at c.put_each_chunk.ensures)
