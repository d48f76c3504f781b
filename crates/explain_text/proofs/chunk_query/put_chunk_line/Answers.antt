use Rattle.std.proofs.Common.{codes}
use Rattle.sky_io.proofs.Writes.{wrote_one, wrote_two}
use Rattle.transcript_rules.specs.ChunkLines.{chunk_line}
use Rattle.explain_text.proofs.chunk_query.put_chunk_line.Goals as goal

pub returns-in-Failed : goal.returns-in-Failed
unfolding chunk_line
returns-in-Failed g c = wrote_one _ _ _ _ c.in-Failed.ensures

pub returns-in-Done : goal.returns-in-Done
unfolding chunk_line
returns-in-Done g c = wrote_two _ _ _ _ (codes "\n") _ c.in-Done.ensures c.put.ensures
