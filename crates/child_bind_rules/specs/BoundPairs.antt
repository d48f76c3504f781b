-- The bound queries of worked examples, over objects with a flux and sources with a flux and a time.
use Rattle.std.specs.Prelude.{ℕ, ℤ, pos, true, false, List, [], ◌∷◌, Option, None, Some, Result, Ok, Err}
use Rattle.sql_bound.specs.declared.area.AreaTest.{AreaTest}
use Rattle.sql_bound.specs.declared.cond.BoundCond.{BoundCond}
use Rattle.sql_bound.specs.declared.cond.BoundPred.TheVariants as bound
use Rattle.sql_bound.specs.declared.query.Bound.{Bound}
use Rattle.sql_bound.specs.declared.query.BoundItem.TheVariants as item
use Rattle.sql_bound.specs.declared.query.BoundKey.TheVariants as bkey
use Rattle.sql_bound.specs.declared.query.BoundOrder.{BoundOrder}
use Rattle.sql_bound.specs.declared.query.Shape.TheVariants as shape
use Rattle.sql_tree.specs.declared.cond.Cmp.TheVariants as op
use Rattle.sql_tree.specs.declared.query.Query.{Query}
use Rattle.sql_rules.specs.declared.fault.SqlFault.{SqlFault}
use Rattle.sql_rules.specs.Trees.{tree_of}
use Rattle.bind_rules.specs.Binding.{just_column}
use Rattle.bind_rules.specs.BoundExamples.{holds}
use Rattle.child_bind_rules.specs.ChildBinding.{child_query}
use Rattle.child_bind_rules.specs.ChildExamples.{flux_and_time}

-- what a query is bound to, if it has no fault
abbrev pub child_query_by_tree : Result Query SqlFault → Option Bound
child_query_by_tree (Ok q) = Some (child_query flux_and_time q)
child_query_by_tree (Err f) = None

-- what the text is bound to, if it has no fault
abbrev pub child_query_text : List ℕ → Option Bound
child_query_text text = child_query_by_tree (tree_of text)

-- the pairs of objects and sources, with these parts
abbrev pub times : List BoundCond → List AreaTest → Option BoundOrder → Option ℤ → Bound
times conds areas order limit = record {
  shape = shape.Pairs (pos 0);
  items = item.Plain (just_column true 5) ∷ [];
  conds = conds;
  areas = areas;
  ids = [];
  order = order;
  limit = limit;
}

-- the bound join condition: the object's id is equal to itself
abbrev pub same_id : BoundCond
same_id = holds (bound.Compare (just_column false 0) op.Equal (just_column false 0))

-- an area test as a condition
abbrev pub in_area : AreaTest → BoundCond
in_area area = holds (bound.Area area)

-- descending by the flux of the source
abbrev pub by_flux_down : BoundOrder
by_flux_down = record { key = bkey.Column (record { second = true; col = 4 }); down = true }
