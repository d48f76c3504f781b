use Rattle.std.proofs.Common.{OnOk, subst, sym}
use Rattle.std.proofs.lemmas.Result.{on_ok_weaker}
use Rattle.answer_rules.specs.Pieces.{PieceView}
use Rattle.partial_merge.specs.Contents.{view_in}
use Rattle.partial_merge.specs.Joining.{AbsorbsRows, MayAbsorbRows}
use Rattle.partial_merge.proofs.Standing.{combined_rows, may_combine_rows}
use Rattle.partial_merge.proofs.piece.Piece.absorb_rows.Goals as goal

pub combine_contents-requires : goal.combine_contents-requires
combine_contents-requires c =
    may_combine_rows c.self.inside.contents c.other.inside.contents
    (subst (λ (v : PieceView). MayAbsorbRows v (view_in c.other.inside.contents)) (sym c.self.view_is) (subst (λ (v : PieceView). MayAbsorbRows c.args.self.now v) (sym c.other.view_is) c.requires))

pub returns-clause-kept : goal.returns-clause-kept
returns-clause-kept c =
    let may : MayAbsorbRows (view_in c.self.inside.contents) (view_in c.other.inside.contents) =
    subst (λ (v : PieceView). MayAbsorbRows v (view_in c.other.inside.contents)) (sym c.self.view_is) (subst (λ (v : PieceView). MayAbsorbRows c.args.self.now v) (sym c.other.view_is) c.requires) in
    subst (λ (v : PieceView). OnOk c.combine_contents.result (AbsorbsRows v c.args.other (view_in c.combine_contents.new.contents))) c.self.view_is
    (subst (λ (v : PieceView). OnOk c.combine_contents.result (AbsorbsRows (view_in c.self.inside.contents) v (view_in c.combine_contents.new.contents))) c.other.view_is
    (on_ok_weaker c.combine_contents.result (λ t. combined_rows c.self.inside.contents c.other.inside.contents c.combine_contents.new.contents may t) c.combine_contents.ensures.joined))
