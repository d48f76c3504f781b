-- Unknown names, and columns of a grouped query that are not keys.
use Rattle.std.specs.Prelude.{ℕ, Bool, true, false, ◌&&◌, ◌||◌, not, if◌then◌else◌}
use Rattle.std.specs.Prelude.{List, [], ◌∷◌, Option, None, Some}
use Rattle.std.specs.List.{list_any, find, flat_map}
use Rattle.std.specs.Option.{option_map}
use Rattle.sql_token.specs.declared.token.Span.{Span}
use Rattle.sql_tree.specs.declared.name.Col.{Col}
use Rattle.sql_tree.specs.declared.query.ItemKind.{ItemKind}
use Rattle.sql_tree.specs.declared.query.ItemKind.TheVariants as what
use Rattle.sql_tree.specs.declared.query.Query.{Query}
use Rattle.sql_tree.specs.declared.query.Selection.{Selection}
use Rattle.sql_tree.specs.declared.query.Selection.TheVariants as selection
use Rattle.sql_tree.specs.Spans.{col_span}
use Rattle.bind_rules.specs.declared.fault.BindFault.{BindFault}
use Rattle.bind_rules.specs.declared.fault.BindFault.TheVariants as fault
use Rattle.bind_rules.specs.Columns.{tables, is_join, is_object_table, is_qualifier, is_known, is_same_column}
use Rattle.bind_rules.specs.Mentions.{Mention, Column, Table, Side, mentions_of, columns_of, items_of}

-- ---- unknown names

-- The columns, table names and qualifiers that a query may name.
pub record Known : Type 0 where
  pub column : Col → Bool
  pub table : List ℕ → Bool
  pub qualifier : List ℕ → Bool

-- those of a query over the object table with these extra columns
abbrev pub known_names : List (List ℕ) → Query → Known
known_names names q = record {
  column = is_known names (tables q);
  table = is_object_table;
  qualifier = is_qualifier (tables q);
}

-- nothing has the name of the mention
abbrev pub is_unknown : Known → Mention → Bool
is_unknown known (Column c) = not (known.column c)
is_unknown known (Table n) = not (known.table n.text)
is_unknown known (Side n) = not (known.qualifier n.text)

-- the span of a mention
abbrev pub span_of : Mention → Span
span_of (Column c) = col_span c
span_of (Table n) = n.span
span_of (Side n) = n.span

-- the fault of the first unknown name
unfoldable pub unknown_by : Known → Query → Option BindFault
unknown_by known q = option_map (λ m. fault.UnknownName (span_of m)) (find (is_unknown known) (mentions_of q))

-- the fault of the first unknown name over the object table
abbrev pub unknown_name : List (List ℕ) → Query → Option BindFault
unknown_name names q = unknown_by (known_names names q) q

-- ---- grouped queries

-- the item is an aggregate
abbrev pub is_aggregate : ItemKind → Bool
is_aggregate (what.Plain e) = false
is_aggregate _ = true

-- the query has a GROUP BY
abbrev pub has_keys : List Col → Bool
has_keys [] = false
has_keys (c ∷ cs) = true

-- the query has an aggregate or a GROUP BY
abbrev pub is_grouped : Query → Bool
is_grouped q = list_any (λ i. is_aggregate i.what) (items_of q.items) || has_keys q.group

-- the columns of an item outside of aggregates
abbrev pub plain_columns : ItemKind → List Col
plain_columns (what.Plain e) = columns_of e
plain_columns _ = []

-- the column is among the GROUP BY columns
abbrev pub is_key : Query → Col → Bool
is_key q c = list_any (is_same_column c) q.group

-- the span of the star, or of the first column outside an aggregate that is not a GROUP BY column
abbrev pub ungrouped : Query → Selection → Option Span
ungrouped q (selection.Star span) = Some span
ungrouped q (selection.List l) =
    option_map col_span
    (find (λ c. not (is_key q c)) (flat_map (λ i. plain_columns i.what) (items_of (selection.List l))))

-- the fault of the first position in a grouped query that has no single value for a group
unfoldable pub not_grouped : Query → Option BindFault
not_grouped q =
    if not (is_join q) && is_grouped q then option_map fault.NotGrouped (ungrouped q q.items) else None
