use Rattle.std.proofs.Common.{refl}
use Rattle.std.specs.Fmt.{digits}
use Rattle.transcript_rules.specs.RefusalLines.{refusal_line}
use Rattle.transcript_rules.proofs.examples.refusal_lines.Goals as goal

pub returns-clause-quoted : goal.returns-clause-quoted
unfolding refusal_line
returns-clause-quoted c = refl

pub returns-clause-radius : goal.returns-clause-radius
unfolding refusal_line digits
returns-clause-radius c = refl
