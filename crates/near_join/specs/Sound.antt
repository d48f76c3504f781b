-- What a chunk query over pairs computes of two rows: its columns are there.
use Rattle.std.specs.Prelude.{ℤ, negsuc, Bool, true, IsTrue, Option, None, Some}
use Rattle.std.specs.List.{list_all}
use Rattle.sql_bound.specs.declared.expr.BoundCol.{BoundCol}
use Rattle.sql_bound.specs.declared.query.Shape.{Shape}
use Rattle.sql_bound.specs.declared.query.Shape.TheVariants.{Rows, Pairs, Groups}
use Rattle.value_rules.specs.Sound.{is_sound_cond, is_sound_expr}
use Rattle.answer_rules.specs.declared.rewritten.ChunkItem.{ChunkItem}
use Rattle.answer_rules.specs.declared.rewritten.ChunkItem.TheVariants.{Plain}
use Rattle.answer_rules.specs.declared.rewritten.ChunkOrder.{ChunkOrder}
use Rattle.answer_rules.specs.declared.rewritten.ChunkQuery.{ChunkQuery}

-- the item is an expression of allowed columns, or an aggregate, which has no value on a row or a pair
abbrev pub is_sound_item : (BoundCol → Bool) → ChunkItem → Bool
is_sound_item allowed (Plain e) = is_sound_expr allowed e
is_sound_item allowed i = true

-- the key of an order is an expression of allowed columns
abbrev pub is_sound_key : (BoundCol → Bool) → Option ChunkOrder → Bool
is_sound_key allowed None = true
is_sound_key allowed (Some order) = is_sound_expr allowed order.key

-- The items, the order key and the conditions of a chunk query use allowed columns only.
pub record IsSoundLine (allowed : BoundCol → Bool) (cq : ChunkQuery) : Type 0 where
  pub items : IsTrue (list_all (is_sound_item allowed) cq.items)
  pub key : IsTrue (is_sound_key allowed cq.order)
  pub conds : IsTrue (list_all (is_sound_cond allowed) cq.conds)

-- the largest squared chord of a query over pairs, and -1 for any other
abbrev pub limit_in : Shape → ℤ
limit_in Rows = negsuc 0
limit_in (Pairs limit) = limit
limit_in (Groups keys) = negsuc 0
