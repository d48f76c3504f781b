-- The printed text of a query.
use Rattle.std.specs.Prelude.{ℤ, List, [], ◌∷◌, ◌++◌, map, Option, None, Some, codes}
use Rattle.std.specs.Fmt.{signed_decimal}
use Rattle.sql_tree.specs.declared.cond.Cond.{Cond}
use Rattle.sql_tree.specs.declared.name.Col.{Col}
use Rattle.sql_tree.specs.declared.name.Name.{Name}
use Rattle.sql_tree.specs.declared.query.Item.{Item}
use Rattle.sql_tree.specs.declared.query.ItemKind.{ItemKind}
use Rattle.sql_tree.specs.declared.query.ItemKind.TheVariants as what
use Rattle.sql_tree.specs.declared.query.OrderBy.{OrderBy}
use Rattle.sql_tree.specs.declared.query.Query.{Query}
use Rattle.sql_tree.specs.declared.query.Selection.{Selection}
use Rattle.sql_tree.specs.declared.query.Selection.TheVariants as selection
use Rattle.sql_tree.specs.declared.query.TableRef.{TableRef}
use Rattle.sql_rules.specs.PrintedExprs.{Bytes, text_if, behind_each, in_brackets, print_col, print_expr}
use Rattle.sql_rules.specs.PrintedConds.{print_cond}

-- the text of an item without its alias
abbrev pub print_kind : ItemKind → Bytes
print_kind (what.Plain e) = print_expr e
print_kind what.Count = codes "COUNT(*)"
print_kind (what.CountOf e) = codes "COUNT" ++ in_brackets (print_expr e)
print_kind (what.Sum e) = codes "SUM" ++ in_brackets (print_expr e)
print_kind (what.Min e) = codes "MIN" ++ in_brackets (print_expr e)
print_kind (what.Max e) = codes "MAX" ++ in_brackets (print_expr e)
print_kind (what.Avg e) = codes "AVG" ++ in_brackets (print_expr e)

-- the text of an item's alias
abbrev pub print_as : Option Name → Bytes
print_as None = []
print_as (Some a) = codes " AS " ++ a.text

-- the text of an item
abbrev pub print_item : Item → Bytes
print_item i = print_kind i.what ++ print_as i.alias

-- the text of the select list
abbrev pub print_items : Selection → Bytes
print_items (selection.Star span) = codes "*"
print_items (selection.List l) = print_item l.first ++ behind_each (codes ",") (map print_item l.rest)

-- the text of a table's alias
abbrev pub print_alias : Option Name → Bytes
print_alias None = []
print_alias (Some a) = codes " " ++ a.text

-- the text of a table
abbrev pub print_table : TableRef → Bytes
print_table t = t.name.text ++ print_alias t.alias

-- the text of the second table
abbrev pub print_second : Option TableRef → Bytes
print_second None = []
print_second (Some t) = codes "," ++ print_table t

-- the text of the WHERE clause
abbrev pub print_where : Option Cond → Bytes
print_where None = []
print_where (Some c) = codes " WHERE " ++ print_cond c

-- the text of the GROUP BY clause
abbrev pub print_group : List Col → Bytes
print_group [] = []
print_group (c ∷ cs) = codes " GROUP BY " ++ print_col c ++ behind_each (codes ",") (map print_col cs)

-- the text of the ORDER BY clause
abbrev pub print_order : Option OrderBy → Bytes
print_order None = []
print_order (Some o) = codes " ORDER BY " ++ print_col o.key ++ text_if o.down (codes " DESC")

-- the text of the LIMIT clause
abbrev pub print_limit : Option ℤ → Bytes
print_limit None = []
print_limit (Some n) = codes " LIMIT " ++ signed_decimal n

-- the text of a query, without ASC and semicolon
unfoldable pub printed : Query → Bytes
printed q =
    codes "SELECT " ++ print_items q.items ++ codes " FROM " ++ print_table q.first ++ print_second q.second
    ++ print_where q.cond ++ print_group q.group ++ print_order q.order ++ print_limit q.limit

-- the heading of an item: its alias, or else its printed text
abbrev pub heading_by : ItemKind → Option Name → Bytes
heading_by k None = print_kind k
heading_by k (Some a) = a.text

-- the heading of an item: its alias, or else its printed text
abbrev pub heading : Item → Bytes
heading i = heading_by i.what i.alias
