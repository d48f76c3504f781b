-- The binding of a query over objects and their sources: the bound query, or its first fault. Each conjunct of WHERE has a
-- condition, the join condition included: bound, it compares the object's id with itself.
use Rattle.std.specs.Prelude.{pos, List, map, Result}
use Rattle.sql_bound.specs.declared.query.Bound.{Bound}
use Rattle.sql_bound.specs.declared.query.BoundItem.{BoundItem}
use Rattle.sql_bound.specs.declared.query.Shape.TheVariants as shape
use Rattle.sql_tree.specs.declared.query.Query.{Query}
use Rattle.bind_rules.specs.declared.fault.BindFault.{BindFault}
use Rattle.bind_rules.specs.Binding.{by_fault, item_by, query_by}
use Rattle.bind_rules.specs.Bounds.{Meaning}
use Rattle.bind_rules.specs.Mentions.{items_of}
use Rattle.child_bind_rules.specs.ChildChecks.{child_fault}
use Rattle.child_bind_rules.specs.JoinCondition.{is_id_of}
use Rattle.child_bind_rules.specs.PairColumns.{Schemas, pair_columns}

-- the bound items; a star, which is refused, has none
abbrev pub child_items : Meaning → Query → List BoundItem
child_items means q = map (λ i. item_by means i.what) (items_of q.items)

-- the bound query of a query without a fault. It is over pairs, whose limit plays no part: an object and a source of it
-- have one position. Its id tests are those that name the first table's objectId.
unfoldable pub child_query : Schemas → Query → Bound
child_query s q =
    query_by (pair_columns s q) (is_id_of q.first.alias) q (shape.Pairs (pos 0)) (child_items (pair_columns s q) q)

-- the binding of a query over both tables with these extra columns
unfoldable pub child_bound_of : Schemas → Query → Result Bound BindFault
child_bound_of s q = by_fault (child_fault s q) (child_query s q)
