-- Well-formed chunk queries over a table: they can be run.
use Rattle.std.specs.Prelude.{ℕ, ℤ, Bool, true, IsTrue, Option, None, Some}
use Rattle.std.specs.List.{list_all}
use Rattle.sql_bound.specs.declared.query.Bound.{Bound}
use Rattle.sql_bound.specs.declared.query.Shape.{Shape}
use Rattle.value_rules.specs.Sound.{has_col, is_grouping, is_paired, is_plain_col, is_sound_cond, is_sound_expr}
use Rattle.value_rules.specs.Sound.{is_sound_limit, is_sound_shape, may_aggregate, IsSound}
use Rattle.answer_rules.specs.declared.rewritten.ChunkItem.{ChunkItem}
use Rattle.answer_rules.specs.declared.rewritten.ChunkItem.TheVariants.{Plain, Count, CountOf, Sum, Min, Max}
use Rattle.answer_rules.specs.declared.rewritten.ChunkOrder.{ChunkOrder}
use Rattle.answer_rules.specs.declared.rewritten.ChunkQuery.{ChunkQuery}
use Rattle.answer_rules.specs.PieceLaws.{IsPushed, limited}
use Rattle.answer_rules.specs.ChunkQueries.{chunk_query_of}

-- the item may occur in a chunk query of this shape: an expression of a row or a pair, or an aggregate of a grouped
-- query
abbrev pub is_sound_part : ℕ → Shape → ChunkItem → Bool
is_sound_part columns shape (Plain e) = is_sound_expr (is_plain_col columns shape) e
is_sound_part columns shape Count = is_grouping shape
is_sound_part columns shape (CountOf e) = may_aggregate columns shape e
is_sound_part columns shape (Sum e) = may_aggregate columns shape e
is_sound_part columns shape (Min e) = may_aggregate columns shape e
is_sound_part columns shape (Max e) = may_aggregate columns shape e

-- the order is by an expression of columns that may occur outside an aggregate
abbrev pub is_sound_chunk_order : ℕ → Shape → Option ChunkOrder → Bool
is_sound_chunk_order columns shape None = true
is_sound_chunk_order columns shape (Some order) = is_sound_expr (is_plain_col columns shape) order.key

-- A well-formed chunk query: it can be run over a table with the given number of columns.
pub record IsSoundChunk (columns : ℕ) (cq : ChunkQuery) : Type 0 where
  pub shape : IsTrue (is_sound_shape columns cq.shape)
  pub items : IsTrue (list_all (is_sound_part columns cq.shape) cq.items)
  pub conds : IsTrue (list_all (is_sound_cond (has_col columns (is_paired cq.shape))) cq.conds)
  pub order : IsTrue (is_sound_chunk_order columns cq.shape cq.order)
  pub limit : IsTrue (is_sound_limit cq.limit)

-- the chunk query of a well-formed query is well-formed, with the query's LIMIT or without
abbrev pub ChunkIsSound : Type 0
ChunkIsSound =
    (columns : ℕ) (q : Bound) (limit : Option ℤ) → IsSound columns q → IsPushed q limit
    → IsSoundChunk columns (limited limit (chunk_query_of q))

-- the chunk query of a well-formed query, as rewritten, is well-formed
abbrev pub CutIsSound : Type 0
CutIsSound = (columns : ℕ) (q : Bound) → IsSound columns q → IsSoundChunk columns (chunk_query_of q)
