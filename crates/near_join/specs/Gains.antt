-- What a step of a join pushes into the piece.
use Rattle.std.specs.Prelude.{◌≡◌, ℤ, Bool, List, [], ◌∷◌, Option, ◌++◌, ◌&&◌, if◌then◌else◌, map}
use Rattle.std.specs.List.{filter, flat_map}
use Rattle.table_rules.specs.Objects.{Obj}
use Rattle.sky_rules.specs.Bounds.{Bounds, in_bounds}
use Rattle.sql_bound.specs.declared.cond.BoundCond.{BoundCond}
use Rattle.value_rules.specs.Truth.{meets}
use Rattle.value_rules.specs.Values.{Pick, pair}
use Rattle.answer_rules.specs.Keeps.{KeepsFirst}
use Rattle.answer_rules.specs.Pieces.{PieceView, OfRows, OfGroups, chunk_lines}
use Rattle.answer_rules.specs.Ranks.{row_order}
use Rattle.answer_rules.specs.Rows.{out_row}
use Rattle.answer_rules.specs.declared.rewritten.ChunkQuery.{ChunkQuery}
use Rattle.answer_rules.specs.declared.row.OutRow.{OutRow}
use Rattle.near_join.specs.Walk.{joins, pairs_of}

-- what the chunk query computes of these pairs
abbrev pub lines_for : ChunkQuery → List Pick → List OutRow
lines_for cq pairs = map (out_row (chunk_lines cq)) pairs

-- a row with other values
abbrev pub with_cells : List (Option ℤ) → OutRow → OutRow
with_cells cells r = record { class = r.class; value = r.value; first = r.first; second = r.second; cells = cells }

-- the piece is of rows, and the new one keeps the first n of its rows and those of these pairs
abbrev pub Gains : ChunkQuery → List Pick → PieceView → PieceView → Type 0
Gains cq ps (OfRows pushed rows) (OfRows limit kept) =
    (limit ≡ pushed) × KeepsFirst row_order pushed (rows ++ lines_for cq ps) kept
Gains cq ps (OfRows pushed rows) (OfGroups parts) = ⊥
Gains cq ps (OfGroups parts) new = ⊥

-- the pairs of one row with those of the others that it joins
abbrev pub row_pairs : ChunkQuery → ℤ → List Obj → Obj → List Pick
row_pairs cq limit others u = pairs_of (joins limit cq.conds) others u

-- the pairs of some rows with those of the others that they join
abbrev pub swept_pairs : ChunkQuery → ℤ → List Obj → List Obj → List Pick
swept_pairs cq limit others rows = flat_map (row_pairs cq limit others) rows

-- the rows that are within the bounds
abbrev pub held_rows : Bounds → List Obj → List Obj
held_rows bounds rows = filter (λ o. in_bounds bounds o.at) rows

-- the pair of two rows, if it meets the conditions
abbrev pub if_met : List BoundCond → Obj → Obj → List Pick
if_met conds u v = if meets conds (pair u v) then pair u v ∷ [] else []

-- the pair of two rows that join, if the first is held
abbrev pub ordered_pair : ChunkQuery → ℤ → Bool → Obj → Obj → List Pick
ordered_pair cq limit held u v = if held && joins limit cq.conds u v then pair u v ∷ [] else []

-- the pair of two rows that join, if the first is within the bounds
abbrev pub held_pair : ChunkQuery → ℤ → Bounds → Obj → Obj → List Pick
held_pair cq limit bounds u v = ordered_pair cq limit (in_bounds bounds u.at) u v

-- the pairs of two rows, in both orders
abbrev pub both_orders : ChunkQuery → ℤ → Bounds → Obj → Obj → List Pick
both_orders cq limit bounds u v = held_pair cq limit bounds u v ++ held_pair cq limit bounds v u

-- the pair of a row with itself, and its pairs with others in both orders
abbrev pub upward_pairs : ChunkQuery → ℤ → Bounds → Obj → List Obj → List Pick
upward_pairs cq limit bounds u others = held_pair cq limit bounds u u ++ flat_map (both_orders cq limit bounds u) others
