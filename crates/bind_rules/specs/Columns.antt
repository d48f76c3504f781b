-- The tables and columns of a query, over the columns of a schema.
use Rattle.std.specs.Prelude.{ℕ, Bool, true, ◌&&◌, List, ◌∷◌, codes, Option, None, Some, option_to_list}
use Rattle.std.specs.List.{list_any}
use Rattle.std.specs.Option.{is_some}
use Rattle.std.specs.Str.{bytes_eq}
use Rattle.table_rules.specs.Names.{column_of}
use Rattle.sql_tree.specs.declared.name.Col.{Col}
use Rattle.sql_tree.specs.declared.name.Name.{Name}
use Rattle.sql_tree.specs.declared.query.Query.{Query}
use Rattle.sql_tree.specs.declared.query.TableRef.{TableRef}

-- the qualifier of a table's columns: its alias, or else its name
abbrev pub qualifier_by : Name → Option Name → List ℕ
qualifier_by name None = name.text
qualifier_by name (Some alias) = alias.text

-- the qualifier of a table
abbrev pub qualifier : TableRef → List ℕ
qualifier t = qualifier_by t.name t.alias

-- the tables of a query
abbrev pub tables : Query → List TableRef
tables q = q.first ∷ option_to_list q.second

-- the query is a join
abbrev pub is_join : Query → Bool
is_join q = is_some q.second

-- the text is the qualifier of one of these tables
abbrev pub is_qualifier : List TableRef → List ℕ → Bool
is_qualifier ts text = list_any (λ t. bytes_eq text (qualifier t)) ts

-- a qualifier, if it is written, is that of one of these tables
abbrev pub is_qualified_well : List TableRef → Option Name → Bool
is_qualified_well ts None = true
is_qualified_well ts (Some n) = is_qualifier ts n.text

-- the column's qualifier is that of one of the tables, and its name is in the schema
abbrev pub is_known : List (List ℕ) → List TableRef → Col → Bool
is_known names ts c = is_qualified_well ts c.table && is_some (column_of names c.name.text)

-- the name is that of the object table
abbrev pub is_object_table : List ℕ → Bool
is_object_table text = bytes_eq text (codes "Object")

-- both are the same column of a query of one table
abbrev pub is_same_column : Col → Col → Bool
is_same_column c d = bytes_eq c.name.text d.name.text
