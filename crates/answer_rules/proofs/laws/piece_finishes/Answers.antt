use Rattle.answer_rules.proofs.Cuts.{cut_piece_finishes}
use Rattle.answer_rules.proofs.Finishing.{piece_finishes}
use Rattle.answer_rules.proofs.laws.piece_finishes.Goals as goal

pub returns-clause-any : goal.returns-clause-any
returns-clause-any c = piece_finishes

pub returns-clause-cut : goal.returns-clause-cut
returns-clause-cut c = cut_piece_finishes
