use Rattle.std.proofs.Common.{refl}
use Rattle.std.specs.Fmt.{digits}
use Rattle.transcript_rules.specs.Tables.{headings, table_lines}
use Rattle.transcript_rules.proofs.examples.answer_lines.Goals as goal

pub returns-clause-table : goal.returns-clause-table
unfolding table_lines digits
returns-clause-table c = refl

pub returns-clause-star : goal.returns-clause-star
unfolding headings
returns-clause-star c = refl
