use Rattle.std.proofs.Common.{subst, sym}
use Rattle.answer_rules.specs.Pieces.{PieceView}
use Rattle.partial_merge.specs.Merging.{CanFinish}
use Rattle.partial_merge.proofs.CanMerge.{can_finish}
use Rattle.partial_merge.proofs.piece.Piece.finish.Goals as goal

pub finish-requires : goal.finish-requires
finish-requires c = subst (λ (v : PieceView). CanFinish c.args.merge.now v) (sym c.self.view_is) (can_finish c.args.merge.now c.args.self c.requires)
