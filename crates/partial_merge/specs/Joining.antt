-- What a piece represents after it has absorbed another one, and when it may be finished.
use Rattle.std.specs.Prelude.{◌≡◌, ◌≤◌, ℕ, ℤ, Bool, true, List, length, ◌++◌, [], ◌∷◌, Option, IfSome}
use Rattle.table_rules.specs.Objects.{Obj}
use Rattle.sky_rules.specs.Partition.{Partition}
use Rattle.sql_bound.specs.declared.query.Bound.{Bound}
use Rattle.value_rules.specs.Sound.{IsSound}
use Rattle.answer_rules.specs.declared.rewritten.ChunkQuery.{ChunkQuery}
use Rattle.answer_rules.specs.declared.rewritten.MergePlan.{MergePlan}
use Rattle.answer_rules.specs.declared.row.OutRow.{OutRow}
use Rattle.answer_rules.specs.Bases.{Base, IsBase, StandsFor, columns_in}
use Rattle.answer_rules.specs.Gather.{Partial, gather}
use Rattle.answer_rules.specs.Keeps.{KeepsFirst}
use Rattle.answer_rules.specs.Keys.{Key, key_order}
use Rattle.answer_rules.specs.Parts.{Sums, add_own_sums}
use Rattle.answer_rules.specs.PieceLaws.{AreDisjoint}
use Rattle.answer_rules.specs.Pieces.{PieceView, OfRows, OfGroups, PieceFor}
use Rattle.answer_rules.specs.Ranks.{row_order}
use Rattle.answer_rules.specs.ChunkQueries.{chunk_query_of}
use Rattle.answer_rules.specs.Rewriting.{merge_plan_of}
use Rattle.answer_rules.specs.Small.{IsSmallGroup}
use Rattle.partial_rows.specs.declared.rank.Rank.{Rank}
use Rattle.partial_rows.specs.Multisets.{ComesBeforeNone, out_row}
use Rattle.partial_groups.specs.Groups.{Gathered, MayGather}

-- Both represent one chunk query of one base, over disjoint sets of chunks.
pub record MayJoin (mine other : PieceView) : Type 0 where
  pub base : Base
  pub q : ℕ
  pub chunks : List ℕ
  pub others : List ℕ
  pub this : StandsFor base q chunks mine
  pub that : StandsFor base q others other
  pub apart : AreDisjoint chunks others

-- whatever the two represented over disjoint sets of chunks, the new piece represents over both sets
abbrev pub Joins : PieceView → PieceView → PieceView → Type 0
Joins old other new =
    (g : Partition) (table : List Obj) (cq : ChunkQuery) (chunks others : List ℕ) → AreDisjoint chunks others
    → PieceFor g table cq chunks old → PieceFor g table cq others other → PieceFor g table cq (chunks ++ others) new

-- the piece is of rows, and the new one keeps the first n of its rows and this one
abbrev pub TakesRow : PieceView → OutRow → PieceView → Type 0
TakesRow (OfRows pushed rows) row (OfRows limit kept) =
    (limit ≡ pushed) × KeepsFirst row_order pushed (rows ++ row ∷ []) kept
TakesRow old row new = ⊥

-- both pieces are of rows, with one limit
abbrev pub MayAbsorbRows : PieceView → PieceView → Type 0
MayAbsorbRows (OfRows pushed rows) (OfRows limit others) = limit ≡ pushed
MayAbsorbRows (OfRows pushed rows) (OfGroups parts) = ⊥
MayAbsorbRows (OfGroups parts) other = ⊥

-- the new piece keeps the first n of the rows of both, or all of them without a limit
abbrev pub AbsorbsRows : PieceView → PieceView → PieceView → Type 0
AbsorbsRows (OfRows pushed rows) (OfRows limit others) (OfRows now kept) =
    (now ≡ pushed) × KeepsFirst row_order pushed (rows ++ others) kept
AbsorbsRows old other new = ⊥

-- a row with this sort key is none of the first n, whatever its values: a piece that is given it may stay as it is
abbrev pub IsNoneOfFirst : PieceView → Rank → Type 0
IsNoneOfFirst view rank = (values : List (Option ℤ)) → TakesRow view (out_row rank values) view

-- the answer is true if at least as many rows as the limit are held and none of them comes after a row with this sort
-- key
abbrev pub IsReportedLate : PieceView → Rank → Bool → Type 0
IsReportedLate (OfRows pushed rows) rank reported =
    IfSome pushed (λ n. n ≤ length rows → ComesBeforeNone rank rows → reported ≡ true)
IsReportedLate (OfGroups parts) rank reported = Unit {0}

-- the piece is of rows
abbrev pub IsOfRows : PieceView → Type 0
IsOfRows (OfRows pushed rows) = Unit {0}
IsOfRows (OfGroups parts) = ⊥

-- the piece is of groups, and the group has the same combine functions and is as small as its rows allow
abbrev pub MayTakeGroup : PieceView → Partial Key Sums → Type 0
MayTakeGroup (OfRows pushed rows) g = ⊥
MayTakeGroup (OfGroups parts) g = MayGather parts (g ∷ []) × IsSmallGroup g

-- the piece with one more group, added to the group with its key
abbrev pub with_group : PieceView → Partial Key Sums → PieceView
with_group (OfRows pushed rows) g = OfRows pushed rows
with_group (OfGroups parts) g = OfGroups (gather key_order add_own_sums (parts ++ g ∷ []))

-- the piece is of groups, and these have the same combine functions
abbrev pub MayTakeGroups : PieceView → Gathered → Type 0
MayTakeGroups (OfRows pushed rows) gs = ⊥
MayTakeGroups (OfGroups parts) gs = MayGather parts gs

-- the piece with more groups, each added to the group with its key
abbrev pub with_groups : PieceView → Gathered → PieceView
with_groups (OfRows pushed rows) gs = OfRows pushed rows
with_groups (OfGroups parts) gs = OfGroups (gather key_order add_own_sums (parts ++ gs))

-- The piece's chunk query and the merge are the two parts into which a query that can be run is split.
pub record MayFinish (merge : MergePlan) (view : PieceView) : Type 0 where
  pub base : Base
  pub fits : IsBase base
  pub q : Bound
  pub chunks : List ℕ
  pub sound : IsSound (columns_in base) q
  pub merge_is : merge ≡ merge_plan_of q
  pub stands : PieceFor base.plan base.rows.objects (chunk_query_of q) chunks view
