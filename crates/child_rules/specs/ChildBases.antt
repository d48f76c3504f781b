-- The base of a session's partial results over a child table: a sky, a catalogue, the sources, and the child queries by
-- their numbers.
use Rattle.std.specs.Prelude.{◌≡◌, ◌≤◌, ◌<◌, ◌==◌, ℕ, true, List, All, AllPairs, Option, Some, option_map, find}
use Rattle.table_rules.specs.Objects.{Catalogue, IsCatalogue}
use Rattle.sky_rules.specs.Limits.{IsSky}
use Rattle.sky_rules.specs.Partition.{Partition, chunk_count}
use Rattle.chunk_rules.specs.Filled.{is_filled}
use Rattle.scan_rules.specs.declared.limits.TheConstants.{QUERY_MOST}
use Rattle.source_rules.specs.Sources.{SourceTable, IsSourceTable}
use Rattle.answer_rules.specs.Pieces.{PieceView}
use Rattle.child_rules.specs.declared.bound.ChildBound.{ChildBound}
use Rattle.child_rules.specs.Children.{IsChild}
use Rattle.child_rules.specs.ChildPieces.{ChildFor}

-- A base: the sky, the catalogue and the source table of a session, and its child queries with their numbers.
pub record ChildBase : Type 0 where
  pub plan : Partition
  pub rows : Catalogue
  pub table : SourceTable
  pub queries : List (ℕ × ChildBound)

-- A base within the limits, whose child queries can be run.
pub record IsChildBase (b : ChildBase) : Type 0 where
  pub sky : IsSky b.plan
  pub rows : IsCatalogue b.rows
  pub table : IsSourceTable b.table
  pub ascend : AllPairs (λ e f. e.0 < f.0) b.queries
  pub from_1 : All (λ e. 1 ≤ e.0) b.queries
  pub to_255 : All (λ e. e.0 ≤ QUERY_MOST) b.queries
  pub child : All (λ e. IsChild e.1.bound) b.queries

-- the child query with a number
abbrev pub child_at : List (ℕ × ChildBound) → ℕ → Option ChildBound
child_at queries q = option_map (λ e. e.1) (find (λ e. e.0 == q) queries)

-- The partial result is one of the child query with this number over these chunks; a number without a query has none.
pub record ChildStands (b : ChildBase) (q : ℕ) (chunks : List ℕ) (view : PieceView) : Type 0 where
  pub base : IsChildBase b
  pub query : ChildBound
  pub known : child_at b.queries q ≡ Some query
  pub piece : ChildFor b.plan b.rows.objects b.table.sources query.bound chunks view

-- The base asks of the query with this number the chunk: the query exists, and the chunk has an object.
pub record ChildAsks (b : ChildBase) (q c : ℕ) : Type 0 where
  pub base : IsChildBase b
  pub query : ChildBound
  pub known : child_at b.queries q ≡ Some query
  pub there : c < chunk_count b.plan
  pub filled : is_filled b.plan b.rows.objects c ≡ true
