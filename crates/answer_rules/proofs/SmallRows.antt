-- The rows of a piece are small: what is computed of a row or a pair within its limits is.
use Rattle.std.proofs.Common.{ℕ, ◌≤◌, ◌&&◌, ℤ, nat_abs, int_le, Bool, true, false, List, [], ◌∷◌, ◌++◌, map, filter, Option, Some, None, arith}
use Rattle.std.specs.Prelude.{All}
use Rattle.std.specs.List.{AllByRecursion as Each, flat_map}
use Rattle.std.proofs.lemmas.Int.{ints}
use Rattle.std.proofs.lemmas.List.Elements.{All-from_recursion, recursion_from_All}
use Rattle.sky_vector.specs.Points.{chord_squared}
use Rattle.table_rules.specs.Objects.{Obj, IsRow}
use Rattle.sky_rules.specs.Partition.{Partition}
use Rattle.sql_bound.specs.declared.query.Shape.{Shape}
use Rattle.sql_bound.specs.declared.query.Shape.TheVariants.{Rows, Pairs, Groups}
use Rattle.value_rules.specs.Laws.{IsWithinBounds}
use Rattle.value_rules.specs.Truth.{meets}
use Rattle.value_rules.specs.Values.{Pick, row, pair}
use Rattle.value_rules.specs.Widths.{IsOfSize, most}
use Rattle.value_rules.proofs.Ranges.{pair_is_within, row_is_within}
use Rattle.answer_rules.specs.declared.rewritten.ChunkQuery.{ChunkQuery}
use Rattle.answer_rules.specs.declared.row.OutRow.{OutRow}
use Rattle.answer_rules.specs.Picks.{found, lies_in, picks}
use Rattle.answer_rules.specs.Pieces.{OfRows, RowsFor, chunk_lines, out_rows}
use Rattle.answer_rules.specs.Ranks.{rank_value, row_order}
use Rattle.answer_rules.specs.Rows.{limit_of, out_row}
use Rattle.answer_rules.specs.Small.{IsSmallRow}
use Rattle.answer_rules.specs.SoundChunks.{IsSoundChunk}
use Rattle.answer_rules.proofs.Apart.{each_filter, each_map}
use Rattle.answer_rules.proofs.KeptTwice.{all_kept}
use Rattle.answer_rules.proofs.KeysInRange.{chunk_is_in_range}
use Rattle.answer_rules.proofs.Orders.{each_weaker}

-- ---- what a query looks at

pub rows_within : (table : List Obj) → Each IsRow table → Each IsWithinBounds (map row table)
rows_within table h = each_map IsWithinBounds row table (each_weaker IsRow (λ o. IsWithinBounds (row o)) (λ o r. row_is_within o r) table h)

each_joined : {X : Type 0} (P : X → Type 0) (xs ys : List X) → Each P xs → Each P ys → Each P (xs ++ ys)
each_joined P [] ys h k = k
each_joined P (x ∷ xs) ys h k = (h.0, each_joined P xs ys h.1 k)

pairs_within : (near : Obj → Obj → Bool) (us table : List Obj) → Each IsRow us → Each IsRow table → Each IsWithinBounds (flat_map (λ u. map (pair u) (filter (near u) table)) us)
pairs_within near [] table h k = tt
pairs_within near (u ∷ us) table h k =
    each_joined IsWithinBounds (map (pair u) (filter (near u) table)) (flat_map (λ w. map (pair w) (filter (near w) table)) us)
    (each_map IsWithinBounds (pair u) (filter (near u) table)
    (each_filter (λ v. IsWithinBounds (pair u v)) (near u) table (each_weaker IsRow (λ v. IsWithinBounds (pair u v)) (λ v r. pair_is_within u v h.0 r) table k)))
    (pairs_within near us table h.1 k)

picks_within : (shape : Shape) (table : List Obj) → Each IsRow table → Each IsWithinBounds (picks shape table)
picks_within Rows table h = rows_within table h
picks_within (Pairs limit) table h = pairs_within (λ u v. int_le (chord_squared u.at v.at) limit) table table h h
picks_within (Groups keys) table h = rows_within table h

-- ---- what is computed of it

rank_small : (down : Bool) (v : Option ℤ) → IsOfSize most v → nat_abs (rank_value down v) ≤ most
rank_small down None h = omega arith
rank_small false (Some v) h = h
rank_small true (Some v) h = omega (arith, ints, h)

line_small : (columns : ℕ) (cq : ChunkQuery) (p : Pick) → IsSoundChunk columns cq → IsWithinBounds p → IsSmallRow (out_row (chunk_lines cq) p)
line_small columns cq p s b =
    let both = chunk_is_in_range columns cq p s b in
    record { rank = rank_small (chunk_lines cq).down ((chunk_lines cq).key p) both.1; cells = both.0 }

lines_small : (columns : ℕ) (g : Partition) (table : List Obj) (cq : ChunkQuery) (B : List ℕ) → IsSoundChunk columns cq → All IsRow table → Each IsSmallRow (out_rows g table cq B)
lines_small columns g table cq B s r =
    each_map IsSmallRow (out_row (chunk_lines cq)) (found g table cq.shape cq.conds B)
    (each_weaker IsWithinBounds (λ p. IsSmallRow (out_row (chunk_lines cq) p)) (λ p b. line_small columns cq p s b) (found g table cq.shape cq.conds B)
    (each_filter IsWithinBounds (λ p. meets cq.conds p && lies_in g B p.first.at) (picks cq.shape table) (picks_within cq.shape table (recursion_from_All IsRow table r))))

-- the law, of rows: what is kept of small rows is small
pub rows_small : (columns : ℕ) (g : Partition) (table : List Obj) (cq : ChunkQuery) (B : List ℕ) (pushed : Option ℕ) (rows : List OutRow) → IsSoundChunk columns cq → All IsRow table → RowsFor g table cq B (OfRows pushed rows) → All IsSmallRow rows
rows_small columns g table cq B pushed rows s r h =
    all_kept row_order IsSmallRow (limit_of cq.limit) (out_rows g table cq B) rows h.1
    (All-from_recursion IsSmallRow (out_rows g table cq B) (lines_small columns g table cq B s r))
