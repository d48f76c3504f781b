use Rattle.std.proofs.Common.{ℕ, List, IfSome, subst}
use Rattle.sky_row.specs.Columns.{objects_at}
use Rattle.chunk_row_scan.specs.Candidates.{HaveFirst}
use Rattle.chunk_row_scan.specs.Lines.{IsOfRowsOver}
use Rattle.chunk_row_scan.proofs.Rows.{of_candidates}
use Rattle.chunk_row_scan.proofs.row_piece.limited_piece.Goals as goal

pub returns-in_ok-piece-in-Some : goal.returns-in_ok-piece-in-Some
returns-in_ok-piece-in-Some c =
    let cq = c.args.query.now in
    let objects = c.args.block.now.objects in
    let rows = objects_at objects c.args.places.now in
    of_candidates cq rows (objects_at objects c.in-Some.listed.items) c.in_ok-piece-in-Some.piece
    (subst (λ found. IfSome found (λ listed. HaveFirst cq rows (objects_at objects listed.items))) c.in-Some.is c.in_ok-candidates.ensures.first)
    (subst (λ (listed : List ℕ). IsOfRowsOver cq (objects_at objects listed) c.in_ok-piece-in-Some.piece) c.as_slice.ensures.value c.in_ok-piece-in-Some.ensures)
