-- A row that is added to a multiset: inspected and dropped, or kept with its values after the others.
use Rattle.std.proofs.Common.{◌≡◌, ℕ, ◌+◌, ◌-◌, ℤ, false, List, [], ◌∷◌, ◌++◌, map, length, length-append, take, drop, Option, refl, ap, subst, ◌∙◌, arith, is_lt}
use Rattle.std.specs.List.{All, AllByRecursion as Each}
use Rattle.std.proofs.Math.Seq.{drop-append_seam}
use Rattle.std.proofs.lemmas.List.{length-map, map-append}
use Rattle.std.proofs.lemmas.List.Elements.{All-from_recursion, recursion_from_All}
use Rattle.answer_rules.specs.declared.row.OutRow.{OutRow}
use Rattle.answer_rules.specs.Keeps.{KeepsFirst}
use Rattle.answer_rules.specs.Ranks.{row_order}
use Rattle.answer_rules.proofs.Apart.{each_map, each-append}
use Rattle.answer_rules.proofs.KeptTwice.{all_kept, keeps_late}
use Rattle.answer_rules.proofs.Orders.{each_weaker}
use Rattle.partial_rows.specs.Multisets.{IsTooLate, out_row, pushed_in, ranked_at, rows_in}
use Rattle.partial_rows.specs.declared.row_buffer.RowBuffer.{RowBuffer}
use Rattle.partial_rows.specs.declared.row_buffer.RowBuffer.TheVariants as buffer
use Rattle.partial_rows.specs.declared.rank.Rank.{Rank}
use Rattle.partial_rows.specs.declared.ranked.Ranked.{Ranked}
use Rattle.partial_rows.specs.Rows.{IsIn, rank_order, row_of}
use Rattle.partial_rows.proofs.Growing.{rows_grow, rows_kept}

-- a row behind the first n is none of them
pub too_late : (cells values : List (Option ℤ)) (rank : Rank) (k : RowBuffer) → IsTooLate (ranked_at rank 0 0) k → KeepsFirst row_order (pushed_in k) (rows_in cells k ++ out_row rank values ∷ []) (rows_in cells k)
too_late cells values rank (buffer.All rows) h = absurd h
too_late cells values rank (buffer.First limit heap) h =
    keeps_late row_order limit (map (row_of cells) heap.data.items) (out_row rank values) (omega (arith, h.0, length-map heap.data.items (row_of cells)))
    (each_map (λ m. is_lt (row_order (out_row rank values) m) ≡ false) (row_of cells) heap.data.items h.1)

-- the row that is kept, with its values behind the others
row_behind : (cells values : List (Option ℤ)) (rank : Rank) → row_of (cells ++ values) (ranked_at rank (length cells) (length cells + length values)) ≡ out_row rank values
row_behind cells values rank =
    let n : ℕ = length cells in
    let width : (n + length values) - n ≡ length values = omega arith in
    ap (out_row rank)
    (ap (λ k. take k (drop n (cells ++ values))) width ∙ ap (take (length values)) (drop-append_seam cells values) ∙ take_all values)
  where
    take_all : (xs : List (Option ℤ)) → take (length xs) xs ≡ xs
    take_all [] = refl
    take_all (x ∷ xs) = ap (λ l. x ∷ l) (take_all xs)

pub put_kept : (cells values : List (Option ℤ)) (rank : Rank) (limit : Option ℕ) (old new : List Ranked) → All (IsIn (length cells)) old → KeepsFirst rank_order limit (old ++ ranked_at rank (length cells) (length cells + length values) ∷ []) new → KeepsFirst row_order limit (map (row_of cells) old ++ out_row rank values ∷ []) (map (row_of (cells ++ values)) new)
put_kept cells values rank limit old new h k =
    let row : Ranked = ranked_at rank (length cells) (length cells + length values) in
    let rows : map (row_of (cells ++ values)) (old ++ row ∷ []) ≡ map (row_of cells) old ++ out_row rank values ∷ [] =
    map-append (row_of (cells ++ values)) old (row ∷ [])
    ∙ ap (λ l. l ++ row_of (cells ++ values) row ∷ []) (rows_grow cells values old (recursion_from_All (IsIn (length cells)) old h))
    ∙ ap (λ x. map (row_of cells) old ++ x ∷ []) (row_behind cells values rank)
    in
    subst (λ (l : List OutRow). KeepsFirst row_order limit l (map (row_of (cells ++ values)) new)) rows (rows_kept (cells ++ values) limit _ new k)

-- its values are there, and those of the others still are
pub put_there : (cells values : List (Option ℤ)) (rank : Rank) (limit : Option ℕ) (old new : List Ranked) → All (IsIn (length cells)) old → KeepsFirst rank_order limit (old ++ ranked_at rank (length cells) (length cells + length values) ∷ []) new → All (IsIn (length (cells ++ values))) new
put_there cells values rank limit old new h k =
    let n : ℕ = length (cells ++ values) in
    let longer : n ≡ length cells + length values = length-append cells values in
    let row : Ranked = ranked_at rank (length cells) (length cells + length values) in
    let last : IsIn n row = record { order = omega arith; there = omega (arith, longer) } in
    let others : Each (IsIn n) old = each_weaker (IsIn (length cells)) (IsIn n) (λ r i. (let w : IsIn n r = record { order = IsIn.order i; there = omega (arith, longer, IsIn.there i) } in w)) old (recursion_from_All (IsIn (length cells)) old h) in
    all_kept rank_order (IsIn n) limit _ new k (All-from_recursion (IsIn n) _ (each-append (IsIn n) old (row ∷ []) others (last, tt)))
