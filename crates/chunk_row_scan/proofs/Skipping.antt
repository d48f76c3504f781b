-- Rows that are skipped by their order keys alone.
use Rattle.std.proofs.Common.{◌≡◌, ◌∙◌, refl, sym, ap, subst, ℕ, zero, suc, ◌+◌, ◌-◌, ◌<◌, ◌≤◌, arith, ℤ, Bool, true, List, length, get_or, map, take, Option, None, Some, IfSome}
use Rattle.std.proofs.lemmas.List.{length-map}
use Rattle.table_rules.specs.Objects.{Obj}
use Rattle.sky_row.specs.Columns.{no_row, objects_at}
use Rattle.value_rules.specs.Values.{row, value_of}
use Rattle.answer_rules.specs.declared.rewritten.ChunkOrder.{ChunkOrder}
use Rattle.answer_rules.specs.declared.rewritten.ChunkQuery.{ChunkQuery}
use Rattle.answer_rules.specs.Pieces.{PieceView, chunk_down, chunk_key, chunk_lines, chunk_value}
use Rattle.answer_rules.specs.Rows.{out_row}
use Rattle.chunk_row_scan.specs.Computed.{key_in, keys_on}
use Rattle.chunk_row_scan.specs.Cutoffs.{IsCutoff, is_beyond}
use Rattle.chunk_row_scan.specs.Lines.{IsOfRowsOver}
use Rattle.chunk_row_scan.proofs.Computing.{key_there}
use Rattle.chunk_row_scan.proofs.Rows.{rows_more}

-- there are as many order keys as rows
pub keys_counted : (objects : List Obj) (places : List ℕ) (order : Option ChunkOrder) (keys : Option (List (Option ℤ)))
    → keys ≡ keys_on (objects_at objects places) order
    → IfSome keys (λ values. length values ≡ length places)
keys_counted objects places order keys is =
    subst (λ (ks : Option (List (Option ℤ))). IfSome ks (λ values. length values ≡ length places)) (sym is) (counted order)
  where
    counted : (o : Option ChunkOrder)
        → IfSome (keys_on (objects_at objects places) o) (λ values. length values ≡ length places)
    counted None = tt
    counted (Some o) =
        length-map (objects_at objects places) (λ r. value_of o.key (row r))
        ∙ length-map places (λ place. get_or objects place no_row)

-- a piece of the rows at the first n places
abbrev IsOfFirst : ChunkQuery → List Obj → List ℕ → PieceView → ℕ → Type 0
IsOfFirst cq objects places view n = IsOfRowsOver cq (objects_at objects (take n places)) view

-- one row is skipped
skipped_one : (cq : ChunkQuery) (objects : List Obj) (places : List ℕ) (cutoff : Option ℤ) (view : PieceView) (j : ℕ)
    → j < length places
    → IsCutoff (chunk_down cq.order) view cutoff
    → is_beyond (chunk_down cq.order) cutoff (chunk_key cq.order (row (get_or objects (get_or places j 0) no_row))) ≡ true
    → IsOfRowsOver cq (objects_at objects (take j places)) view
    → IsOfRowsOver cq (objects_at objects (take (j + 1) places)) view
skipped_one cq objects places cutoff view j low is beyond h =
    let o : Obj = get_or objects (get_or places j 0) no_row in
    rows_more cq objects places j (out_row (chunk_lines cq) (row o)) view view low refl
    (is (chunk_key cq.order (row o)) o.id beyond (map (chunk_value (row o)) cq.items)) h

-- the rows from one index to before another are skipped
pub rows_skipped : (cq : ChunkQuery) (objects : List Obj) (places : List ℕ) (down : Bool) (keys : Option (List (Option ℤ))) (cutoff : Option ℤ) (view : PieceView) (from to : ℕ)
    → from ≤ to
    → to ≤ length places → down ≡ chunk_down cq.order → keys ≡ keys_on (objects_at objects places) cq.order
    → IsCutoff down view cutoff
    → ((j : ℕ) → from ≤ j → j < to → is_beyond down cutoff (key_in keys j) ≡ true)
    → IsOfRowsOver cq (objects_at objects (take from places)) view
    → IsOfRowsOver cq (objects_at objects (take to places)) view
rows_skipped cq objects places down keys cutoff view from to order high turned known is beyond h =
    subst (IsOfFirst cq objects places view) (let e : from + (to - from) ≡ to = omega (arith, order) in e) (by_count (to - from) (omega (arith, order)))
  where
    key_beyond : (j : ℕ) → from ≤ j → j < to
        → is_beyond (chunk_down cq.order) cutoff (chunk_key cq.order (row (get_or objects (get_or places j 0) no_row))) ≡ true
    key_beyond j first low =
        let key : key_in keys j ≡ chunk_key cq.order (row (get_or objects (get_or places j 0) no_row)) =
        ap (λ ks. key_in ks j) known ∙ key_there cq.order objects places j (omega (arith, low, high)) in
        subst (λ d. is_beyond d cutoff (chunk_key cq.order (row (get_or objects (get_or places j 0) no_row))) ≡ true) turned
        (subst (λ k. is_beyond down cutoff k ≡ true) key (beyond j first low))

    by_count : (n : ℕ) → from + n ≤ to → IsOfFirst cq objects places view (from + n)
    by_count zero low = subst (IsOfFirst cq objects places view) (let e : from ≡ from + 0 = omega arith in e) h
    by_count (suc n) low =
        subst (IsOfFirst cq objects places view) (let e : (from + n) + 1 ≡ from + suc n = omega arith in e)
        (skipped_one cq objects places cutoff view (from + n) (omega (arith, low, high)) (subst (λ d. IsCutoff d view cutoff) turned is)
        (key_beyond (from + n) (omega arith) (omega (arith, low))) (by_count n (omega (arith, low))))
