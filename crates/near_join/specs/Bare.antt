-- Queries over pairs that select only the ids, and what a sweep knows of its query.
use Rattle.std.specs.Prelude.{◌≡◌, ℕ, ◌+◌, ℤ, pos, Bool, true, List, [], ◌∷◌, map, Option, None, Some, IsTrue}
use Rattle.table_rules.specs.Objects.{Obj}
use Rattle.table_rules.specs.declared.limits.TheConstants.{FIRST_COLUMNS}
use Rattle.value_rules.specs.Sound.{has_col}
use Rattle.value_rules.specs.Truth.{meets}
use Rattle.value_rules.specs.Values.{pair}
use Rattle.answer_rules.specs.Pieces.{chunk_value}
use Rattle.answer_rules.specs.declared.rewritten.ChunkQuery.{ChunkQuery}
use Rattle.answer_rules.specs.declared.row.OutRow.{OutRow}
use Rattle.near_join.specs.Rising.{Rises, is_upward}
use Rattle.near_join.specs.Sound.{IsSoundLine}

-- The query selects the two ids of a pair and has no order. Its conditions hold for each pair or, if the lower id has
-- to come first, for exactly those pairs in which it does.
pub record IsBare (rises : Bool) (cq : ChunkQuery) : Type 0 where
  pub ids : (u v : Obj) → map (chunk_value (pair u v)) cq.items ≡ Some u.id ∷ Some v.id ∷ []
  pub order : cq.order ≡ None
  pub conds : (u v : Obj) → meets cq.conds (pair u v) ≡ is_upward rises u v

-- the line of a pair of which only the two ids are selected
abbrev pub id_line : ℤ → ℤ → OutRow
id_line first second = record {
  class = 0;
  value = pos 0;
  first = first;
  second = second;
  cells = Some first ∷ Some second ∷ [];
}

-- What is known of a query of a table with the given number of extra columns: its columns are there, and the flags on
-- its conditions are true only if they hold.
pub record IsAsked (width : ℕ) (cq : ChunkQuery) (upwards ids : Bool) : Type 0 where
  pub rises : IsTrue upwards → Rises cq.conds
  pub bare : IsTrue ids → IsBare upwards cq
  pub sound : IsSoundLine (has_col (FIRST_COLUMNS + width) true) cq
