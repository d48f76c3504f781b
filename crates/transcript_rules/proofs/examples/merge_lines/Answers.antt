use Rattle.std.proofs.Common.{refl}
use Rattle.std.specs.Fmt.{digits}
use Rattle.transcript_rules.specs.MergeLines.{merge_line}
use Rattle.transcript_rules.proofs.examples.merge_lines.Goals as goal

pub returns-clause-rows : goal.returns-clause-rows
unfolding merge_line digits
returns-clause-rows c = refl

pub returns-clause-groups : goal.returns-clause-groups
unfolding merge_line digits
returns-clause-groups c = refl

pub returns-clause-keys : goal.returns-clause-keys
unfolding merge_line digits
returns-clause-keys c = refl
