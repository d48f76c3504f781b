use Rattle.std.proofs.lemmas.Result.{on_ok_weaker}
use Rattle.partial_merge.proofs.Absorbing.{joins_absorbs, may_join}
use Rattle.partial_merge.proofs.work.PieceWork.absorb.Goals as goal

pub absorb-requires : goal.absorb-requires
absorb-requires c = may_join c.args.self.now c.args.other c.requires

pub returns-clause-joined : goal.returns-clause-joined
returns-clause-joined c = on_ok_weaker c.absorb.result (λ j. joins_absorbs c.args.self.now c.args.other c.absorb.new.self j) c.absorb.ensures.joined
