-- The binding of a query: the bound query, or its first fault. Items, groups, orders and the whole query are bound
-- whatever their columns mean; only a star is the object table's alone.
use Rattle.std.specs.Prelude.{ℕ, ◌+◌, ℤ, pos, ◌-ℤ◌, Bool, true, false, if◌then◌else◌, List, [], ◌∷◌, ◌++◌, map}
use Rattle.std.specs.Prelude.{Option, None, Some, Result, Ok, Err}
use Rattle.std.specs.List.{flat_map}
use Rattle.std.specs.Option.{option_map}
use Rattle.sql_bound.specs.declared.expr.BoundAtom.TheVariants as batom
use Rattle.sql_bound.specs.declared.expr.BoundExpr.{BoundExpr, roll-BoundExpr}
use Rattle.sql_bound.specs.declared.expr.BoundFactor.{roll-BoundFactor}
use Rattle.sql_bound.specs.declared.expr.BoundProd.{roll-BoundProd}
use Rattle.sql_bound.specs.declared.query.Bound.{Bound}
use Rattle.sql_bound.specs.declared.query.BoundItem.{BoundItem}
use Rattle.sql_bound.specs.declared.query.BoundItem.TheVariants as item
use Rattle.sql_bound.specs.declared.query.BoundKey.{BoundKey}
use Rattle.sql_bound.specs.declared.query.BoundKey.TheVariants as bkey
use Rattle.sql_bound.specs.declared.query.BoundOrder.{BoundOrder}
use Rattle.sql_bound.specs.declared.query.Shape.{Shape}
use Rattle.sql_bound.specs.declared.query.Shape.TheVariants as shape
use Rattle.sql_tree.specs.declared.name.Col.{Col}
use Rattle.sql_tree.specs.declared.query.ItemKind.{ItemKind}
use Rattle.sql_tree.specs.declared.query.ItemKind.TheVariants as what
use Rattle.sql_tree.specs.declared.query.OrderBy.{OrderBy}
use Rattle.sql_tree.specs.declared.query.Query.{Query}
use Rattle.sql_tree.specs.declared.query.Selection.{Selection}
use Rattle.sql_tree.specs.declared.query.Selection.TheVariants as selection
use Rattle.bind_rules.specs.declared.fault.BindFault.{BindFault}
use Rattle.bind_rules.specs.Bounds.{Meaning, Scope, bound_col, expr_by}
use Rattle.bind_rules.specs.Checks.{alias_place, bind_fault}
use Rattle.table_rules.specs.Names.{column_names}
use Rattle.bind_rules.specs.Columns.{is_join}
use Rattle.bind_rules.specs.Names.{is_grouped}
use Rattle.bind_rules.specs.Tops.{Test, Chord, top_tests}
use Rattle.bind_rules.specs.IdTests.{areas_by, first_id, ids_by}
use Rattle.bind_rules.specs.Wholes.{conds_in}

-- ---- items

-- the expression that is one column
abbrev pub just_column : Bool → ℕ → BoundExpr
just_column second col = roll-BoundExpr (record {
  first = roll-BoundProd (record {
    first = roll-BoundFactor (record { minus = false; atom = batom.Col (record { second = second; col = col }) });
    rest = [];
  });
  rest = [];
})

-- all columns of a table
abbrev pub columns_from : Bool → ℕ → List (List ℕ) → List BoundItem
columns_from second at [] = []
columns_from second at (n ∷ ns) = item.Plain (just_column second at) ∷ columns_from second (at + 1) ns

-- the items of a star: all columns of the first table, then in a join all of the second
abbrev pub star_items : List (List ℕ) → Bool → List BoundItem
star_items names join =
    columns_from false 0 (column_names names) ++ (if join then columns_from true 0 (column_names names) else [])

-- the bound item
abbrev pub item_by : Meaning → ItemKind → BoundItem
item_by means (what.Plain e) = item.Plain (expr_by means e)
item_by means what.Count = item.Count
item_by means (what.CountOf e) = item.CountOf (expr_by means e)
item_by means (what.Sum e) = item.Sum (expr_by means e)
item_by means (what.Min e) = item.Min (expr_by means e)
item_by means (what.Max e) = item.Max (expr_by means e)
item_by means (what.Avg e) = item.Avg (expr_by means e)

-- the bound item over the object table
abbrev pub bound_item : Scope → ItemKind → BoundItem
bound_item s = item_by (bound_col s)

-- the bound items
abbrev pub bound_items : Scope → Query → Selection → List BoundItem
bound_items s q (selection.Star span) = star_items s.names (is_join q)
bound_items s q (selection.List l) = map (λ i. bound_item s i.what) (l.first ∷ l.rest)

-- ---- the shape and the order

-- the largest squared chord that a chord test accepts
abbrev pub chord_limit : Test → List ℤ
chord_limit (Chord left right true n) = (n -ℤ pos 1) ∷ []
chord_limit (Chord left right false n) = n ∷ []
chord_limit _ = []

-- the first of the numbers, or else the given one
abbrev pub first_or : ℤ → List ℤ → ℤ
first_or z [] = z
first_or z (n ∷ ns) = n

-- the shape of the bound query: pairs up to the limit of the one chord test, groups, or rows
abbrev pub shape_of : Meaning → Query → Shape
shape_of means q =
    if is_join q then shape.Pairs (first_or (pos 0) (flat_map chord_limit (top_tests q.cond)))
    else if is_grouped q then shape.Groups (map means q.group)
    else shape.Rows

-- the shape of a bound query over the object table
abbrev pub bound_shape : Scope → Query → Shape
bound_shape s = shape_of (bound_col s)

-- the key of an order: the item with that alias if there is one, and else the column
abbrev pub key_of : Meaning → Col → Option ℕ → BoundKey
key_of means c (Some place) = bkey.Item place
key_of means c None = bkey.Column (means c)

-- the bound order
abbrev pub order_of : Meaning → Query → OrderBy → BoundOrder
order_of means q o = record { key = key_of means o.key (alias_place q o.key); down = o.down }

-- the key of an order over the object table
abbrev pub key_by : Scope → Col → Option ℕ → BoundKey
key_by s = key_of (bound_col s)

-- the bound order over the object table
abbrev pub bound_order : Scope → Query → OrderBy → BoundOrder
bound_order s = order_of (bound_col s)

-- ---- the query

-- the bound query of this shape with these items, given which columns are the id of the first table
abbrev pub query_by : Meaning → (Col → Bool) → Query → Shape → List BoundItem → Bound
query_by means id q kind items = record {
  shape = kind;
  items = items;
  conds = conds_in means q.cond;
  areas = flat_map areas_by (top_tests q.cond);
  ids = flat_map (ids_by id) (top_tests q.cond);
  order = option_map (order_of means q) q.order;
  limit = q.limit;
}

-- the bound query of a query over the object table without a fault
unfoldable pub bound_query : Scope → Query → Bound
bound_query s q = query_by (bound_col s) (first_id (bound_col s)) q (bound_shape s q) (bound_items s q q.items)

-- the fault, or else the query
abbrev pub by_fault : Option BindFault → Bound → Result Bound BindFault
by_fault (Some f) b = Err f
by_fault None b = Ok b

-- the binding of a query over the schema with these extra columns
unfoldable pub bound_of : List (List ℕ) → Query → Result Bound BindFault
bound_of names q = by_fault (bind_fault names q) (bound_query (record { names = names; second = q.second }) q)
