use Rattle.overlap_tables.proofs.Listed.{others_ascend}
use Rattle.overlap_tables.proofs.laws.others_ascend.Goals as goal

pub returns : goal.returns
returns c = others_ascend
