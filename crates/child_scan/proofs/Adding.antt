-- What the steps of a scan put into the piece.
use Rattle.std.proofs.Common.{◌≡◌, ℕ, ℤ, List, [], ◌∷◌, ◌++◌, append_assoc, Bool, true, false, cond, map, Option, None, sym, ap, subst, ◌∙◌}
use Rattle.std.proofs.lemmas.List.{append-nil}
use Rattle.std.proofs.lemmas.List.Sorted.{IsPermutation-append_left, IsPermutation-trans}
use Rattle.answer_rules.specs.declared.row.OutRow.{OutRow}
use Rattle.answer_rules.specs.Keeps.{KeepsFirst}
use Rattle.answer_rules.specs.Pieces.{OfGroups, OfRows, PieceView}
use Rattle.answer_rules.specs.Ranks.{row_order}
use Rattle.sql_bound.specs.declared.query.Bound.{Bound}
use Rattle.value_rules.specs.Values.{Pick}
use Rattle.answer_rules.specs.Rows.{bound_lines, item_value, out_row}
use Rattle.partial_rows.specs.declared.rank.Rank.{Rank}
use Rattle.partial_rows.specs.Multisets.{out_row as ranked}
use Rattle.partial_merge.specs.Joining.{IsOfRows, TakesRow}
use Rattle.child_rules.specs.ChildPieces.{HasAllRows, rows_of_picks}
use Rattle.child_rules.proofs.Joined.{kept_all}
use Rattle.child_scan.specs.AddsRows.{AddsRows}
use Rattle.child_scan.specs.Lines.{with_cells}

-- a piece that has rows is one of rows
pub has_of_rows : (all : List OutRow) (view : PieceView) → HasAllRows all view → IsOfRows view
has_of_rows all (OfRows pushed rows) h = tt
has_of_rows all (OfGroups parts) h = absurd h

-- a step that finds nothing
pub adds_nothing : (view : PieceView) → AddsRows [] view view
adds_nothing view all h = subst (λ l. HasAllRows l view) (sym (append-nil all)) h

-- one step after another
pub adds_joined : (a b : List OutRow) (old mid new : PieceView) → AddsRows a old mid → AddsRows b mid new → AddsRows (a ++ b) old new
adds_joined a b old mid new g h all k = subst (λ l. HasAllRows l new) (append_assoc all a b) (h (all ++ a) (g all k))

-- a step that puts one row
pub adds_one : (row : OutRow) (old new : PieceView) → TakesRow old row new → AddsRows (row ∷ []) old new
adds_one row (OfRows pushed rows) (OfRows limit kept) t all h =
    let keeps : KeepsFirst row_order None (rows ++ row ∷ []) kept = subst (λ (p : Option ℕ). KeepsFirst row_order p (rows ++ row ∷ []) kept) h.0 t.1 in
    (t.0 ∙ h.0, IsPermutation-trans _ _ _ (IsPermutation-append_left (row ∷ []) all rows h.1) (kept_all (rows ++ row ∷ []) kept keeps))
adds_one row (OfRows pushed rows) (OfGroups parts) t all h = absurd t
adds_one row (OfGroups parts) new t all h = absurd h

-- a step that puts what passes a test
pub adds_passed : {X : Type 0} (f : X → OutRow) (x : X) (b : Bool) (old new : PieceView) → b ≡ true → AddsRows (f x ∷ []) old new → AddsRows (map f (cond b (x ∷ []) [])) old new
adds_passed f x true old new e g = g
adds_passed f x false old new e g = absurd (cc e)

pub adds_failed : {X : Type 0} (f : X → OutRow) (x : X) (b : Bool) (view : PieceView) → b ≡ false → AddsRows (map f (cond b (x ∷ []) [])) view view
adds_failed f x true view e = absurd (cc e)
adds_failed f x false view e = adds_nothing view

-- the rank of a pair with the values of its items is its row
pub row_is_line : (q : Bound) (p : Pick) (rank : Rank) (values : List (Option ℤ)) → ranked rank [] ≡ with_cells [] (out_row (bound_lines q) p) → values ≡ map (item_value p) q.items
    → ranked rank values ≡ out_row (bound_lines q) p
row_is_line q p rank values e f = ap (with_cells values) e ∙ ap (λ cells. with_cells cells (out_row (bound_lines q) p)) f

pub adds_line : (q : Bound) (p : Pick) (row : OutRow) (old new : PieceView) → row ≡ out_row (bound_lines q) p → TakesRow old row new → AddsRows (rows_of_picks q (p ∷ [])) old new
adds_line q p row old new e t = subst (λ r. AddsRows (r ∷ []) old new) e (adds_one row old new t)
