-- What a session attaches for the queries of a script: for each planned one its chunks, and its piece before any chunk.
use denote.Ref.{Bor}
use Rattle.std.specs.Prelude.{ℕ, List, Option, None, Some, map}
use Rattle.table_rules.specs.Objects.{Catalogue}
use Rattle.sky_rules.specs.Partition.{Partition}
use Rattle.answer_rules.specs.declared.rewritten.ChunkQuery.{ChunkQuery}
use Rattle.answer_rules.specs.Bases.{Base}
use Rattle.answer_rules.specs.PieceLaws.{empty_view}
use Rattle.answer_rules.specs.Pieces.{PieceView}
use Rattle.answer_rules.specs.Rows.{limit_of}
use Rattle.partial_merge.specs.Roots.{shown}
use Rattle.session_rules.specs.Numbers.{numbered_from}
use Rattle.scan_session.specs.declared.end.Planned.{Planned as Attachable}
use Rattle.answer_rules.specs.declared.rewritten.Rewritten.{Rewritten}
use Rattle.query_ends.specs.Attached.{attached as attached_by}
use Rattle.query_ends.specs.declared.plan.QueryPlan.TheVariants.{Planned, Refused}
use Rattle.czar.specs.QueryPlans.{Plan}

-- the chunk query of a query that is planned
abbrev pub chunk_query : Plan → Option ChunkQuery
chunk_query (Planned head query chunks) = Some query.chunk
chunk_query (Refused why) = None

-- the root of the session's pieces: the chunk queries of these plans, with their numbers from 1
abbrev pub base_of : Partition → Catalogue → List Plan → Base
base_of g c plans = record { plan = g; rows = c; queries = numbered_from 1 (map chunk_query plans) }

-- borrowed chunk queries, with the numbers of their queries
abbrev pub numbered : List (ℕ × Bor ChunkQuery) → List (ℕ × ChunkQuery)
numbered queries = shown queries (λ query. query.now)

-- the root of pieces over these chunk queries, with the numbers of their queries
abbrev pub base_over : Partition → Catalogue → List (ℕ × Bor ChunkQuery) → Base
base_over g c queries = record { plan = g; rows = c; queries = numbered queries }

-- the piece of a query over no chunks
abbrev pub first_object_piece : Rewritten → PieceView
first_object_piece query = empty_view query.chunk.shape (limit_of query.chunk.limit)

-- a query with its chunks and the piece over none; nothing is attached for one that is refused
abbrev pub attached : Plan → Option (Attachable PieceView)
attached = attached_by first_object_piece
