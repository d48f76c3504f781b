-- The rewriting of a bound query into the query of each chunk.
use Rattle.std.specs.Prelude.{ℤ, Bool, List, [], ◌∷◌, Option, None, Some, option_map, option_and_then, slice_get}
use Rattle.std.specs.List.{flat_map}
use Rattle.sql_bound.specs.Trees.{just}
use Rattle.sql_bound.specs.declared.expr.BoundAtom.TheVariants.{Col}
use Rattle.sql_bound.specs.declared.expr.BoundCol.{BoundCol}
use Rattle.sql_bound.specs.declared.expr.BoundExpr.{BoundExpr}
use Rattle.sql_bound.specs.declared.query.Bound.{Bound}
use Rattle.sql_bound.specs.declared.query.BoundItem.{BoundItem}
use Rattle.sql_bound.specs.declared.query.BoundItem.TheVariants as item
use Rattle.sql_bound.specs.declared.query.BoundKey.{BoundKey}
use Rattle.sql_bound.specs.declared.query.BoundKey.TheVariants.{Item, Column as ByColumn}
use Rattle.sql_bound.specs.declared.query.BoundOrder.{BoundOrder}
use Rattle.sql_bound.specs.declared.query.Shape.{Shape}
use Rattle.sql_bound.specs.declared.query.Shape.TheVariants.{Rows, Pairs, Groups}
use Rattle.answer_rules.specs.declared.rewritten.ChunkItem.{ChunkItem}
use Rattle.answer_rules.specs.declared.rewritten.ChunkItem.TheVariants as part
use Rattle.answer_rules.specs.declared.rewritten.ChunkOrder.{ChunkOrder}
use Rattle.answer_rules.specs.declared.rewritten.ChunkQuery.{ChunkQuery}

-- a column as an expression
abbrev pub of_col : BoundCol → BoundExpr
of_col c = just (Col c)

-- the id of the first row, and of the second row of a pair
abbrev pub id_col : Bool → BoundExpr
id_col second = of_col (record { second = second; col = 0 })

-- the chunk items of an item of rows or pairs: itself
abbrev pub row_parts : BoundItem → List ChunkItem
row_parts (item.Plain e) = part.Plain e ∷ []
row_parts i = []

-- the chunk items of an item of a grouped query: an aggregate is itself, AVG its total and its count, a plain item none
abbrev pub group_parts : BoundItem → List ChunkItem
group_parts (item.Plain e) = []
group_parts item.Count = part.Count ∷ []
group_parts (item.CountOf e) = part.CountOf e ∷ []
group_parts (item.Sum e) = part.Sum e ∷ []
group_parts (item.Min e) = part.Min e ∷ []
group_parts (item.Max e) = part.Max e ∷ []
group_parts (item.Avg e) = part.Sum e ∷ part.CountOf e ∷ []

-- the chunk items of an item of a query of this shape
abbrev pub chunk_items_of : Shape → BoundItem → List ChunkItem
chunk_items_of Rows i = row_parts i
chunk_items_of (Pairs limit) i = row_parts i
chunk_items_of (Groups keys) i = group_parts i

-- the expression of a plain item
abbrev pub expr_of : BoundItem → Option BoundExpr
expr_of (item.Plain e) = Some e
expr_of i = None

-- the expression that rows or pairs are ordered by
abbrev pub key_expr : List BoundItem → BoundKey → Option BoundExpr
key_expr items (Item place) = option_and_then expr_of (slice_get items place)
key_expr items (ByColumn c) = Some (of_col c)

-- the order of a chunk query of rows or pairs
abbrev pub row_order_of : List BoundItem → BoundOrder → Option ChunkOrder
row_order_of items order = option_map (λ e. record { key = e; down = order.down }) (key_expr items order.key)

-- the order of a chunk query; a grouped query has its order in the merge alone
abbrev pub chunk_order_of : Shape → List BoundItem → Option BoundOrder → Option ChunkOrder
chunk_order_of Rows items order = option_and_then (row_order_of items) order
chunk_order_of (Pairs limit) items order = option_and_then (row_order_of items) order
chunk_order_of (Groups keys) items order = None

-- the LIMIT of a chunk query: rows and pairs have that of the query, since the first n of all are among the first n of
-- each chunk in the query's order; a grouped query has its LIMIT in the merge alone, since a group may continue in
-- other chunks
abbrev pub chunk_limit_of : Shape → Option ℤ → Option ℤ
chunk_limit_of Rows limit = limit
chunk_limit_of (Pairs chord) limit = limit
chunk_limit_of (Groups keys) limit = None

-- the chunk query: WHERE and the keys stay; rows and pairs have the order and the LIMIT of the query, groups neither
abbrev pub chunk_query_of : Bound → ChunkQuery
chunk_query_of q = record {
  shape = q.shape;
  items = flat_map (chunk_items_of q.shape) q.items;
  conds = q.conds;
  order = chunk_order_of q.shape q.items q.order;
  limit = chunk_limit_of q.shape q.limit;
}
