-- Well-formed queries over pairs: each column that they compute with is one of a pair.
use Rattle.std.specs.Prelude.{Bool, true, IsTrue, Option, None, Some}
use Rattle.std.specs.List.{list_all}
use Rattle.sql_bound.specs.declared.expr.BoundCol.{BoundCol}
use Rattle.sql_bound.specs.declared.query.Bound.{Bound}
use Rattle.sql_bound.specs.declared.query.BoundItem.{BoundItem}
use Rattle.sql_bound.specs.declared.query.BoundItem.TheVariants.{Plain}
use Rattle.sql_bound.specs.declared.query.BoundKey.{BoundKey}
use Rattle.sql_bound.specs.declared.query.BoundKey.TheVariants.{Item, Column}
use Rattle.sql_bound.specs.declared.query.BoundOrder.{BoundOrder}
use Rattle.value_rules.specs.Sound.{is_sound_cond, is_sound_expr}

-- the item is a well-formed expression of allowed columns; an aggregate has no value on a pair
abbrev pub is_pair_item : (BoundCol → Bool) → BoundItem → Bool
is_pair_item allowed (Plain e) = is_sound_expr allowed e
is_pair_item allowed i = true

-- the key is an item, or an allowed column
abbrev pub is_pair_key : (BoundCol → Bool) → BoundKey → Bool
is_pair_key allowed (Item place) = true
is_pair_key allowed (Column c) = allowed c

-- the key of the order is an item, or an allowed column
abbrev pub is_pair_order : (BoundCol → Bool) → Option BoundOrder → Bool
is_pair_order allowed None = true
is_pair_order allowed (Some order) = is_pair_key allowed order.key

-- Everything that the query computes on a pair is well-formed, with allowed columns.
pub record IsSoundPair (allowed : BoundCol → Bool) (q : Bound) : Type 0 where
  pub items : IsTrue (list_all (is_pair_item allowed) q.items)
  pub key : IsTrue (is_pair_order allowed q.order)
  pub conds : IsTrue (list_all (is_sound_cond allowed) q.conds)
