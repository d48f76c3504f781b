-- A child piece finishes as the answer of its query.
use Rattle.std.proofs.Common.{◌≡◌, List, refl, sym, ◌∙◌}
use Rattle.std.specs.Prelude.{Ok}
use Rattle.sql_bound.specs.declared.query.Bound.{Bound}
use Rattle.answer_rules.specs.declared.value.Value.{Value}
use Rattle.answer_rules.specs.Answers.{Answer}
use Rattle.answer_rules.specs.Finish.{finished}
use Rattle.answer_rules.specs.Keeps.{AreApart}
use Rattle.answer_rules.specs.Pieces.{OfGroups, OfRows, PieceView}
use Rattle.answer_rules.specs.Ranks.{row_order}
use Rattle.answer_rules.specs.Rewriting.{merge_plan_of}
use Rattle.partial_merge.specs.Contents.{rows_of}
use Rattle.partial_merge.specs.Joining.{IsOfRows}
use Rattle.child_rules.specs.Children.{IsChild}
use Rattle.child_rules.proofs.Finished.{child_piece_finishes}
use Rattle.child_rules.proofs.Joined.{child_rows_are_apart}
use Rattle.child_piece.specs.ChildAnswers.{IsChildAnswer, MayFinishChild}

pub is_of_rows : (q : Bound) (view : PieceView) → MayFinishChild q view → IsOfRows view
is_of_rows q (OfRows pushed rows) m = tt
is_of_rows q (OfGroups parts) m = absurd m.stands

pub are_apart : (q : Bound) (view : PieceView) → MayFinishChild q view → AreApart row_order (rows_of view)
are_apart q (OfRows pushed rows) m =
    child_rows_are_apart m.base.plan m.base.rows.objects m.base.table.sources q m.chunks rows m.fits.rows.ascend m.fits.table.ascend (refl, m.stands.1)
are_apart q (OfGroups parts) m = absurd m.stands

same_ok : (a b : List (List Value)) → (let x : Answer = Ok a in x) ≡ Ok b → a ≡ b
same_ok a b e = cc e

pub answered : (q : Bound) (view : PieceView) (table : List (List Value)) → IsChild q → finished (merge_plan_of q) view ≡ Ok table → IsChildAnswer q view table
answered q view table c e g objects sources chunks up rise h = same_ok table _ (sym e ∙ child_piece_finishes g objects sources q chunks view c up rise h)
