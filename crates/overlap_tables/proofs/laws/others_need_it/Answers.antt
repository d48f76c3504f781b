use Rattle.overlap_tables.proofs.Listed.{others_need_it}
use Rattle.overlap_tables.proofs.laws.others_need_it.Goals as goal

pub returns : goal.returns
returns c = others_need_it
