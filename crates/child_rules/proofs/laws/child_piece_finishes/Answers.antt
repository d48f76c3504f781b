use Rattle.child_rules.proofs.Finished.{child_piece_finishes}
use Rattle.child_rules.proofs.laws.child_piece_finishes.Goals as goal

pub returns : goal.returns
returns c = child_piece_finishes
