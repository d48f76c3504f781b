use Rattle.std.proofs.Common.{subst, sym}
use Rattle.answer_rules.specs.Keeps.{AreApart}
use Rattle.answer_rules.specs.Pieces.{PieceView}
use Rattle.answer_rules.specs.Ranks.{row_order}
use Rattle.partial_merge.specs.Contents.{rows_of}
use Rattle.partial_merge.proofs.piece.Piece.finish_rows.Goals as goal

pub finish_rows-requires-clause-apart : goal.finish_rows-requires-clause-apart
finish_rows-requires-clause-apart c = subst (λ (v : PieceView). AreApart row_order (rows_of v)) (sym c.self.view_is) c.requires.apart
