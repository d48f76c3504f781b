-- Lemmas about child queries: about the values of their pairs, their partial results and their answers.
use Rattle.std.specs.Prelude.{◌≡◌, ◌<◌, ◌<ℤ◌, ℕ, true, List, [], ◌∷◌, ◌++◌, AllPairs, None, Ok, option_map, option_to_list}
use Rattle.std.specs.List.{filter, flat_map}
use Rattle.std.specs.List.Sorted.{IsPermutation}
use Rattle.table_rules.specs.Objects.{Obj, IdsAscend, IsRow, cell, column_bound}
use Rattle.sky_rules.specs.Limits.{IsSky}
use Rattle.sky_rules.specs.Partition.{Partition, chunk_count}
use Rattle.sky_rules.specs.Chunks.{all_chunks}
use Rattle.source_rules.specs.Sources.{Source, IsSource, source_bound, source_cell}
use Rattle.source_rules.specs.SourcePlaces.{object_is_in}
use Rattle.sql_bound.specs.declared.cond.BoundCond.{BoundCond}
use Rattle.sql_bound.specs.declared.query.Bound.{Bound}
use Rattle.value_rules.specs.Truth.{meets}
use Rattle.value_rules.specs.Values.{Pick, cell_of}
use Rattle.answer_rules.specs.declared.row.OutRow.{OutRow}
use Rattle.answer_rules.specs.Coverage.{AreInTheSky}
use Rattle.answer_rules.specs.Finish.{finished}
use Rattle.answer_rules.specs.Keeps.{AreApart, KeepsFirst}
use Rattle.answer_rules.specs.PieceLaws.{AreDisjoint, AreSame}
use Rattle.answer_rules.specs.Pieces.{PieceView, OfRows}
use Rattle.answer_rules.specs.Plans.{plan_of, row_of_id}
use Rattle.answer_rules.specs.Ranks.{row_order}
use Rattle.answer_rules.specs.Rewriting.{merge_plan_of}
use Rattle.child_rules.specs.Columns.{object_col, source_col}
use Rattle.child_rules.specs.Children.{IsChild, child_answer, child_answer_in, child_found, child_pair, is_source_of, as_row}
use Rattle.child_rules.specs.ChildPieces.{ChildFor}

-- the ids of the sources ascend strictly
abbrev pub SourcesAscend : List Source → Type 0
SourcesAscend sources = AllPairs (λ a b. a.id <ℤ b.id) sources

-- In a pair of an object and a source, each column has the value that it has in its own table.
pub record ReadsColumns (o : Obj) (s : Source) : Type 0 where
  pub object : (k : ℕ) → cell_of (child_pair o s) (object_col k) ≡ cell o k
  pub source : (k : ℕ) → cell_of (child_pair o s) (source_col k) ≡ source_cell s k

-- and so it is in each pair of an object with one of its sources
abbrev pub ColumnsAreRead : Type 0
ColumnsAreRead = (o : Obj) (s : Source) → is_source_of o s ≡ true → ReadsColumns o s

-- each column of a source keeps the largest size that its values have in the source table
abbrev pub BoundsAreKept : Type 0
BoundsAreKept = (k : ℕ) → column_bound (source_col k).col ≡ source_bound k

-- a source within the limits is a row within the limits, if its object is one
abbrev pub SourceIsARow : Type 0
SourceIsARow = (o : Obj) (s : Source) → IsRow o → IsSource s → IsRow (as_row o s)

-- partial results over disjoint sets of chunks, combined, are a partial result over both sets
abbrev pub ChildPiecesJoin : Type 0
ChildPiecesJoin =
    (g : Partition) (table : List Obj) (sources : List Source) (q : Bound) (B B' : List ℕ) (mine other kept : List OutRow)
    → AreDisjoint B B' → ChildFor g table sources q B (OfRows None mine)
    → ChildFor g table sources q B' (OfRows None other) → KeepsFirst row_order None (mine ++ other) kept
    → ChildFor g table sources q (B ++ B') (OfRows None kept)

-- a partial result over a set of chunks does not depend on the order in which they are listed
abbrev pub ChildPieceIsForASet : Type 0
ChildPieceIsForASet =
    (g : Partition) (table : List Obj) (sources : List Source) (q : Bound) (B B' : List ℕ) (view : PieceView)
    → AreSame B B' → ChildFor g table sources q B view → ChildFor g table sources q B' view

-- a partial result without rows is one over no chunks
abbrev pub EmptyChildPiece : Type 0
EmptyChildPiece =
    (g : Partition) (table : List Obj) (sources : List Source) (q : Bound) → ChildFor g table sources q [] (OfRows None [])

-- no two rows of a partial result tie in the order of rows
abbrev pub ChildRowsAreApart : Type 0
ChildRowsAreApart =
    (g : Partition) (table : List Obj) (sources : List Source) (q : Bound) (B : List ℕ) (rows : List OutRow)
    → IdsAscend table → SourcesAscend sources → ChildFor g table sources q B (OfRows None rows) → AreApart row_order rows

-- a partial result finishes as the query's answer over its chunks
abbrev pub ChildPieceFinishes : Type 0
ChildPieceFinishes =
    (g : Partition) (table : List Obj) (sources : List Source) (q : Bound) (B : List ℕ) (view : PieceView)
    → IsChild q → IdsAscend table → SourcesAscend sources → ChildFor g table sources q B view
    → finished (merge_plan_of q) view ≡ Ok (child_answer_in g table sources q B)

-- over all chunks a child query has the same answer as over the two flat lists, without any chunks
abbrev pub ChildAnswerIsFlat : Type 0
ChildAnswerIsFlat =
    (g : Partition) (table : List Obj) (sources : List Source) (q : Bound) → IsSky g → AreInTheSky table
    → child_answer_in g table sources q (all_chunks g) ≡ child_answer table sources q

-- over its plan, which its tests of objects choose, a child query has the same answer as over the two flat lists
abbrev pub ChildPlanCovers : Type 0
ChildPlanCovers =
    (g : Partition) (table : List Obj) (sources : List Source) (q : Bound) → IsSky g → AreInTheSky table → IsChild q
    → child_answer_in g table sources q (plan_of g table q) ≡ child_answer table sources q

-- the pair of a source with its object, or none if no object has the id
abbrev pub own_pairs : List Obj → Source → List Pick
own_pairs table s = option_to_list (option_map (λ o. child_pair o s) (row_of_id table s.object))

-- that pair, if it meets the conditions
abbrev pub met_pairs : List Obj → List BoundCond → Source → List Pick
met_pairs table conds s = filter (meets conds) (own_pairs table s)

-- in one chunk a child query finds the pairs of the chunk's sources that meet the conditions, each once
abbrev pub ChildFoundInOne : Type 0
ChildFoundInOne =
    (g : Partition) (table : List Obj) (sources : List Source) (conds : List BoundCond) (c : ℕ) → IsSky g
    → AreInTheSky table → IdsAscend table → c < chunk_count g
    → IsPermutation (child_found g table sources conds (c ∷ []))
    (flat_map (met_pairs table conds) (filter (object_is_in g table c) sources))
