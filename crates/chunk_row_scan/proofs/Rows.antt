-- Rows that are put into a piece one by one.
use Rattle.std.proofs.Common.{◌≡◌, ◌∙◌, refl, sym, ap, subst, ℕ, ◌+◌, ◌<◌, List, [], ◌∷◌, ◌++◌, length, get_or, take, map}
use Rattle.std.proofs.lemmas.List.{map-append, take_more}
use Rattle.std.proofs.lemmas.List.Sorted.{IsPermutation-refl}
use Rattle.table_rules.specs.Objects.{Obj}
use Rattle.sky_row.specs.Columns.{no_row, objects_at}
use Rattle.value_rules.specs.Values.{row}
use Rattle.answer_rules.specs.declared.row.OutRow.{OutRow}
use Rattle.answer_rules.specs.declared.rewritten.ChunkQuery.{ChunkQuery}
use Rattle.answer_rules.specs.Keeps.{KeepsFirst}
use Rattle.answer_rules.specs.Pieces.{PieceView, OfRows, OfGroups, chunk_lines}
use Rattle.answer_rules.specs.Ranks.{row_order}
use Rattle.answer_rules.specs.Rows.{limit_of, out_row}
use Rattle.answer_rules.proofs.Keeping.{keeps_all, keeps_joined}
use Rattle.answer_rules.proofs.KeptTwice.{keeps_again}
use Rattle.answer_rules.proofs.Totals.{row_total}
use Rattle.partial_merge.specs.Joining.{IsOfRows, TakesRow}
use Rattle.answer_rules.specs.PieceLaws.{empty_view}
use Rattle.sql_bound.specs.declared.query.Shape.TheVariants.{Rows}
use Rattle.chunk_row_scan.specs.Candidates.{HaveFirst}
use Rattle.chunk_row_scan.specs.Lines.{IsOfRowsOver}

-- one row more behind
pub objects_more : (objects : List Obj) (places : List ℕ) (j : ℕ) → j < length places
    → objects_at objects (take (j + 1) places) ≡ objects_at objects (take j places) ++ get_or objects (get_or places j 0) no_row ∷ []
objects_more objects places j low =
    ap (objects_at objects) (take_more places j 0 low)
    ∙ map-append (λ place. get_or objects place no_row) (take j places) (get_or places j 0 ∷ [])

-- a piece of the rows at the first places that takes in the next one is of one place more
pub rows_more : (cq : ChunkQuery) (objects : List Obj) (places : List ℕ) (j : ℕ) (r : OutRow) (old new : PieceView) → j < length places
    → r ≡ out_row (chunk_lines cq) (row (get_or objects (get_or places j 0) no_row)) → TakesRow old r new
    → IsOfRowsOver cq (objects_at objects (take j places)) old → IsOfRowsOver cq (objects_at objects (take (j + 1) places)) new
rows_more cq objects places j r (OfRows pushed rows) (OfRows limit kept) low is takes h =
    let line = λ (o : Obj). out_row (chunk_lines cq) (row o) in
    let o : Obj = get_or objects (get_or places j 0) no_row in
    let longer : map line (objects_at objects (take (j + 1) places)) ≡ map line (objects_at objects (take j places)) ++ r ∷ [] =
    ap (map line) (objects_more objects places j low)
    ∙ (map-append line (objects_at objects (take j places)) (o ∷ []) ∙ ap (λ x. map line (objects_at objects (take j places)) ++ x ∷ []) (sym is)) in
    let both : KeepsFirst row_order (limit_of cq.limit) (map line (objects_at objects (take j places)) ++ r ∷ []) (rows ++ r ∷ []) =
    keeps_joined row_order (limit_of cq.limit) _ (r ∷ []) rows (r ∷ []) h.1 (keeps_all row_order (limit_of cq.limit) _ _ (IsPermutation-refl (r ∷ []))) in (
      takes.0 ∙ h.0,
      subst (λ l. KeepsFirst row_order (limit_of cq.limit) l kept) (sym longer)
          (keeps_again row_order row_total (limit_of cq.limit) _ (rows ++ r ∷ []) kept both
          (subst (λ n. KeepsFirst row_order n (rows ++ r ∷ []) kept) h.0 takes.1)),
    )
rows_more cq objects places j r (OfRows pushed rows) (OfGroups parts) low is takes h = absurd takes
rows_more cq objects places j r (OfGroups parts) new low is takes h = absurd h

-- an empty piece is of no rows
pub of_none : (cq : ChunkQuery) (view : PieceView) → cq.shape ≡ Rows → view ≡ empty_view cq.shape (limit_of cq.limit) → IsOfRowsOver cq [] view
of_none cq view shape is =
    subst (IsOfRowsOver cq []) (sym (is ∙ ap (λ s. empty_view s (limit_of cq.limit)) shape)) (refl, keeps_all row_order (limit_of cq.limit) [] [] (IsPermutation-refl []))

-- a piece of rows is of rows
pub of_rows : (cq : ChunkQuery) (objects : List Obj) (view : PieceView) → IsOfRowsOver cq objects view → IsOfRows view
of_rows cq objects (OfRows pushed rows) h = tt
of_rows cq objects (OfGroups parts) h = absurd h

-- a piece of candidates that have the first n rows is one of all rows
pub of_candidates : (cq : ChunkQuery) (rows candidates : List Obj) (view : PieceView) → HaveFirst cq rows candidates
    → IsOfRowsOver cq candidates view → IsOfRowsOver cq rows view
of_candidates cq rows candidates (OfRows pushed kept) first h = (h.0, keeps_again row_order row_total (limit_of cq.limit) _ _ kept first h.1)
of_candidates cq rows candidates (OfGroups parts) first h = absurd h
