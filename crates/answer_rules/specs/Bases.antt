-- The base of a session's partial results: a sky, a catalogue, and the chunk queries by their numbers.
use Rattle.std.specs.Prelude.{◌≡◌, ◌≤◌, ◌<◌, ◌+◌, ◌==◌, ℕ, true, length, List, All, AllPairs}
use Rattle.std.specs.Prelude.{Option, Some, option_map, find}
use Rattle.table_rules.specs.Objects.{Catalogue, IsCatalogue}
use Rattle.table_rules.specs.declared.limits.TheConstants.{FIRST_COLUMNS}
use Rattle.sky_rules.specs.Limits.{IsSky}
use Rattle.sky_rules.specs.Partition.{Partition, chunk_count}
use Rattle.chunk_rules.specs.Filled.{is_filled}
use Rattle.scan_rules.specs.declared.limits.TheConstants.{QUERY_MOST}
use Rattle.answer_rules.specs.declared.rewritten.ChunkQuery.{ChunkQuery}
use Rattle.answer_rules.specs.Pieces.{PieceView, PieceFor}
use Rattle.answer_rules.specs.Plans.{Reaches}
use Rattle.answer_rules.specs.SoundChunks.{IsSoundChunk}

-- A base: the sky and the catalogue of a session, and its chunk queries with their numbers.
pub record Base : Type 0 where
  pub plan : Partition
  pub rows : Catalogue
  pub queries : List (ℕ × ChunkQuery)

-- the columns of the base's table
abbrev pub columns_in : Base → ℕ
columns_in b = FIRST_COLUMNS + length b.rows.names

-- A base within the limits, whose chunk queries can be run.
pub record IsBase (b : Base) : Type 0 where
  pub sky : IsSky b.plan
  pub rows : IsCatalogue b.rows
  pub ascend : AllPairs (λ e f. e.0 < f.0) b.queries
  pub from_1 : All (λ e. 1 ≤ e.0) b.queries
  pub to_255 : All (λ e. e.0 ≤ QUERY_MOST) b.queries
  pub sound : All (λ e. IsSoundChunk (columns_in b) e.1) b.queries

-- the chunk query with a number
abbrev pub query_at : List (ℕ × ChunkQuery) → ℕ → Option ChunkQuery
query_at queries q = option_map (λ e. e.1) (find (λ e. e.0 == q) queries)

-- The partial result is one of the chunk query with this number over these chunks; a number without a query has none.
pub record StandsFor (b : Base) (q : ℕ) (chunks : List ℕ) (view : PieceView) : Type 0 where
  pub base : IsBase b
  pub query : ChunkQuery
  pub known : query_at b.queries q ≡ Some query
  pub piece : PieceFor b.plan b.rows.objects query chunks view

-- The base asks of the query with this number the chunk.
pub record Asks (b : Base) (q c : ℕ) : Type 0 where
  pub base : IsBase b
  pub query : ChunkQuery
  pub known : query_at b.queries q ≡ Some query
  pub there : c < chunk_count b.plan
  pub filled : is_filled b.plan b.rows.objects c ≡ true
  pub reach : Reaches b.plan query.shape c
