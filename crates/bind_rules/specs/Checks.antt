-- The six checks of a query, in order, and its first fault. Which names are known and how large the values of a column are,
-- are parameters; the object table is one case.
use Rattle.std.specs.Prelude.{ℕ, Bool, false, ◌&&◌, ◌||◌, not, if◌then◌else◌}
use Rattle.std.specs.Prelude.{List, Option, None, Some}
use Rattle.std.specs.List.{list_any, position}
use Rattle.std.specs.Option.{is_some, option_or}
use Rattle.std.specs.Str.{bytes_eq}
use Rattle.sql_tree.specs.declared.name.Col.{Col}
use Rattle.sql_tree.specs.declared.name.Name.{Name}
use Rattle.sql_tree.specs.declared.query.OrderBy.{OrderBy}
use Rattle.sql_tree.specs.declared.query.Query.{Query}
use Rattle.sql_tree.specs.Spans.{col_span}
use Rattle.bind_rules.specs.declared.fault.BindFault.{BindFault}
use Rattle.bind_rules.specs.declared.fault.BindFault.TheVariants as fault
use Rattle.bind_rules.specs.Columns.{is_join}
use Rattle.bind_rules.specs.Mentions.{items_of}
use Rattle.bind_rules.specs.Widths.{column_size, is_too_wide, all_exprs}
use Rattle.bind_rules.specs.Names.{Known, known_names, unknown_by, not_grouped, is_grouped, is_key}
use Rattle.bind_rules.specs.Forms.{join_form, area_form}

-- ---- an expression that is too wide

-- the fault of an expression that may be too wide, if there is one
unfoldable pub too_wide_by : (Col → ℕ) → Query → Option BindFault
too_wide_by size q = if list_any (is_too_wide size) (all_exprs q) then Some fault.TooWide else None

-- the fault of an expression over the object table that may be too wide
abbrev pub too_wide : List (List ℕ) → Query → Option BindFault
too_wide names = too_wide_by (column_size names)

-- ---- an order key

-- the alias is this name
abbrev pub is_named : Name → Option Name → Bool
is_named n None = false
is_named n (Some a) = bytes_eq a.text n.text

-- the position of the first item whose alias is the key
abbrev pub alias_place : Query → Col → Option ℕ
alias_place q c = if is_some c.table then None else position (λ i. is_named c.name i.alias) (items_of q.items)

-- the key is a column that the query can be ordered by: a known one, qualified in a join, and in a grouped query a key
abbrev pub is_sortable : (Col → Bool) → Query → Col → Bool
is_sortable known q c =
    known c && (not (is_join q) || is_some c.table) && (not (is_grouped q) || is_key q c)

-- the fault of an order key
abbrev pub order_fault : (Col → Bool) → Query → Option OrderBy → Option BindFault
order_fault known q None = None
order_fault known q (Some o) =
    if is_some (alias_place q o.key) || is_sortable known q o.key then None
    else Some (fault.OrderName (col_span o.key))

-- the fault of an order key that is no column and no alias
unfoldable pub order_by : Known → Query → Option BindFault
order_by known q = order_fault known.column q q.order

-- the fault of an order key that is no column of the object table and no alias
abbrev pub order_name : List (List ℕ) → Query → Option BindFault
order_name names q = order_by (known_names names q) q

-- ---- all checks

-- the first fault of a query, given which names are known and the largest size of a value of each column
unfoldable pub fault_by : Known → (Col → ℕ) → Query → Option BindFault
fault_by known size q =
    option_or (unknown_by known q) (option_or (not_grouped q) (option_or (join_form q) (option_or (area_form q)
    (option_or (too_wide_by size q) (order_by known q)))))

-- the first fault of a query over the schema of these extra columns
abbrev pub bind_fault : List (List ℕ) → Query → Option BindFault
bind_fault names q = fault_by (known_names names q) (column_size names) q
