use Rattle.std.specs.Fmt.{digits}
use Rattle.transcript_rules.specs.ChunkLines.{chunk_line}
use Rattle.transcript_rules.proofs.Reading.{printed_columns, printed_conditions}
use Rattle.transcript_rules.proofs.examples.chunk_lines.Goals as goal

pub returns-clause-limited : goal.returns-clause-limited
unfolding chunk_line digits
returns-clause-limited c = simp (printed_columns, printed_conditions)

pub returns-clause-whole : goal.returns-clause-whole
unfolding chunk_line digits
returns-clause-whole c = simp (printed_columns, printed_conditions)
