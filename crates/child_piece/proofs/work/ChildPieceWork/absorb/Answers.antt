use Rattle.std.proofs.lemmas.Result.{on_ok_weaker}
use Rattle.child_piece.proofs.Absorbing.{may_absorb, absorbs_rows}
use Rattle.child_piece.proofs.work.ChildPieceWork.absorb.Goals as goal

pub absorb-requires : goal.absorb-requires
absorb-requires c = may_absorb c.args.self.now c.args.other c.requires

pub returns-clause-joined : goal.returns-clause-joined
returns-clause-joined c = on_ok_weaker c.absorb.result (λ t. absorbs_rows c.args.self.now c.args.other c.absorb.new.self t) c.absorb.ensures.kept
