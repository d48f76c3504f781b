-- Lemmas about partial results: they combine over disjoint sets of chunks, in any order, and finish as the answer.
use Rattle.std.specs.Prelude.{◌≡◌, ◌⊎◌, ℕ, ℤ, true, false, List, [], ◌++◌, Option, None}
use Rattle.table_rules.specs.Objects.{Obj, IdsAscend}
use Rattle.sky_rules.specs.Partition.{Partition}
use Rattle.sql_bound.specs.declared.query.Bound.{Bound}
use Rattle.sql_bound.specs.declared.query.Shape.{Shape}
use Rattle.sql_bound.specs.declared.query.Shape.TheVariants.{Rows, Pairs, Groups}
use Rattle.value_rules.specs.Sound.{IsSound}
use Rattle.answer_rules.specs.declared.rewritten.ChunkItem.{ChunkItem}
use Rattle.answer_rules.specs.declared.rewritten.ChunkQuery.{ChunkQuery}
use Rattle.answer_rules.specs.Answers.{answer_in}
use Rattle.answer_rules.specs.Finish.{finished}
use Rattle.answer_rules.specs.Gather.{gather}
use Rattle.answer_rules.specs.Keys.{key_order}
use Rattle.answer_rules.specs.Keeps.{AreApart, KeepsFirst}
use Rattle.answer_rules.specs.Ranks.{row_order}
use Rattle.answer_rules.specs.declared.row.OutRow.{OutRow}
use Rattle.answer_rules.specs.Parts.{add_own_sums, gathered}
use Rattle.scan_rules.specs.Numbers.{has}
use Rattle.answer_rules.specs.Pieces.{PieceView, OfRows, OfGroups, PieceFor}
use Rattle.answer_rules.specs.Rows.{limit_of}
use Rattle.answer_rules.specs.ChunkQueries.{chunk_query_of}
use Rattle.answer_rules.specs.Rewriting.{merge_plan_of}

-- no chunk is in both sets
abbrev pub AreDisjoint : List ℕ → List ℕ → Type 0
AreDisjoint B B' = (c : ℕ) → has B c ≡ true → has B' c ≡ false

-- the sets have the same chunks
abbrev pub AreSame : List ℕ → List ℕ → Type 0
AreSame B B' = (c : ℕ) → has B c ≡ has B' c

-- two partial results combined: the rows of one after those of the other, or partial aggregates combined by key
abbrev pub joined_views : List ChunkItem → PieceView → PieceView → PieceView
joined_views items (OfRows pushed rows) (OfRows pushed' rows') = OfRows pushed (rows ++ rows')
joined_views items (OfRows pushed rows) (OfGroups parts') = OfRows pushed rows
joined_views items (OfGroups parts) (OfRows pushed' rows') = OfGroups parts
joined_views items (OfGroups parts) (OfGroups parts') = OfGroups (gathered items (parts ++ parts'))

-- two partial results combined without their chunk query: aggregate states combine by their own functions
abbrev pub joined_alone : PieceView → PieceView → PieceView
joined_alone (OfRows pushed rows) (OfRows pushed' rows') = OfRows pushed (rows ++ rows')
joined_alone (OfRows pushed rows) (OfGroups parts') = OfRows pushed rows
joined_alone (OfGroups parts) (OfRows pushed' rows') = OfGroups parts
joined_alone (OfGroups parts) (OfGroups parts') = OfGroups (gather key_order add_own_sums (parts ++ parts'))

-- partial results over disjoint sets of chunks, combined, are a partial result over both sets
abbrev pub PiecesJoin : Type 0
PiecesJoin =
    (g : Partition) (table : List Obj) (cq : ChunkQuery) (B B' : List ℕ) (mine other : PieceView) → AreDisjoint B B'
    → PieceFor g table cq B mine → PieceFor g table cq B' other
    → PieceFor g table cq (B ++ B') (joined_views cq.items mine other)

-- partial results over disjoint sets of chunks, combined without their chunk query, are a partial result over both sets
abbrev pub JoinsAlone : Type 0
JoinsAlone =
    (g : Partition) (table : List Obj) (cq : ChunkQuery) (B B' : List ℕ) (mine other : PieceView) → AreDisjoint B B'
    → PieceFor g table cq B mine → PieceFor g table cq B' other
    → PieceFor g table cq (B ++ B') (joined_alone mine other)

-- a partial result of rows may drop rows, if those that it keeps include the first n
abbrev pub KeptStands : Type 0
KeptStands =
    (g : Partition) (table : List Obj) (cq : ChunkQuery) (B : List ℕ) (pushed : Option ℕ) (rows kept : List OutRow)
    → KeepsFirst row_order pushed rows kept → PieceFor g table cq B (OfRows pushed rows)
    → PieceFor g table cq B (OfRows pushed kept)

-- no two rows of a partial result tie in the order of rows
abbrev pub RowsAreApart : Type 0
RowsAreApart =
    (g : Partition) (table : List Obj) (cq : ChunkQuery) (B : List ℕ) (pushed : Option ℕ) (rows : List OutRow)
    → IdsAscend table → PieceFor g table cq B (OfRows pushed rows) → AreApart row_order rows

-- a partial result over a set of chunks does not depend on the order in which they are listed
abbrev pub PieceIsForASet : Type 0
PieceIsForASet =
    (g : Partition) (table : List Obj) (cq : ChunkQuery) (B B' : List ℕ) (view : PieceView) → AreSame B B'
    → PieceFor g table cq B view → PieceFor g table cq B' view

-- an empty partial result: no rows, with the limit of the chunk query, or no groups
abbrev pub empty_view : Shape → Option ℕ → PieceView
empty_view Rows pushed = OfRows pushed []
empty_view (Pairs limit) pushed = OfRows pushed []
empty_view (Groups keys) pushed = OfGroups []

-- an empty partial result is one over no chunks
abbrev pub EmptyPiece : Type 0
EmptyPiece =
    (g : Partition) (table : List Obj) (cq : ChunkQuery)
    → PieceFor g table cq [] (empty_view cq.shape (limit_of cq.limit))

-- the chunk query with this limit
abbrev pub limited : Option ℤ → ChunkQuery → ChunkQuery
limited limit cq = record {
  shape = cq.shape;
  items = cq.items;
  conds = cq.conds;
  order = cq.order;
  limit = limit;
}

-- a chunk query has no LIMIT, or that of its query
abbrev pub IsPushed : Bound → Option ℤ → Type 0
IsPushed q limit = (limit ≡ None) ⊎ (limit ≡ q.limit)

-- a partial result of a query's chunk query, with no LIMIT or with that of the query, finishes as the query's answer
-- over its chunks
abbrev pub PieceFinishes : Type 0
PieceFinishes =
    (columns : ℕ) (g : Partition) (table : List Obj) (q : Bound) (B : List ℕ) (limit : Option ℤ) (view : PieceView)
    → IsPushed q limit → IsSound columns q → IdsAscend table
    → PieceFor g table (limited limit (chunk_query_of q)) B view
    → finished (merge_plan_of q) view ≡ answer_in g table q B

-- a partial result of a query's chunk query as rewritten, with the LIMIT that rows or pairs have, finishes as the
-- query's answer over its chunks
abbrev pub CutPieceFinishes : Type 0
CutPieceFinishes =
    (columns : ℕ) (g : Partition) (table : List Obj) (q : Bound) (B : List ℕ) (view : PieceView)
    → IsSound columns q → IdsAscend table → PieceFor g table (chunk_query_of q) B view
    → finished (merge_plan_of q) view ≡ answer_in g table q B
