-- The tables and columns of a query over objects and their sources, and the columns of a pair that they refer to: the
-- first row of a pair is an object, the second a source of it.
use Rattle.std.specs.Prelude.{ℕ, nat_abs, Bool, true, false, ◌||◌, if◌then◌else◌, List, [], ◌∷◌, codes}
use Rattle.std.specs.Prelude.{Option, None, Some, unwrap_or}
use Rattle.std.specs.Option.{is_some, option_map, option_or}
use Rattle.std.specs.Str.{bytes_eq}
use Rattle.table_rules.specs.Names.{column_of}
use Rattle.table_rules.specs.Objects.{column_bound}
use Rattle.table_rules.specs.declared.limits.TheConstants.{COLUMNS_MOST}
use Rattle.source_rules.specs.SourceNames.{source_column_of}
use Rattle.sql_tree.specs.declared.name.Col.{Col}
use Rattle.sql_tree.specs.declared.name.Name.{Name}
use Rattle.sql_tree.specs.declared.query.Query.{Query}
use Rattle.sql_tree.specs.declared.query.TableRef.{TableRef}
use Rattle.sql_bound.specs.declared.expr.BoundCol.{BoundCol}
use Rattle.bind_rules.specs.Bounds.{Meaning}
use Rattle.bind_rules.specs.Columns.{is_object_table, is_qualifier, qualifier, tables}
use Rattle.bind_rules.specs.Names.{Known}
use Rattle.child_rules.specs.Columns.{object_col, source_col}

-- The names of the extra columns of both tables.
pub record Schemas : Type 0 where
  pub objects : List (List ℕ)
  pub sources : List (List ℕ)

-- the schemas with these names
abbrev pub schemas_of : (objects sources : List (List ℕ)) → Schemas
schemas_of objects sources = record { objects = objects; sources = sources }

-- the name is that of the source table
abbrev pub is_source_table : List ℕ → Bool
is_source_table text = bytes_eq text (codes "Source")

-- the column of the table with this name; a table that is neither of the two has no columns
abbrev pub table_column : Schemas → List ℕ → List ℕ → Option BoundCol
table_column s table name =
    if is_object_table table then option_map object_col (column_of s.objects name)
    else if is_source_table table then option_map source_col (source_column_of s.sources name)
    else None

-- a written column may be one of the table: its qualifier is the table's, or it has none
abbrev pub may_be_of : Option Name → TableRef → Bool
may_be_of None t = true
may_be_of (Some n) t = bytes_eq n.text (qualifier t)

-- the column of this table that a written column refers to
abbrev pub column_by : Schemas → Col → TableRef → Option BoundCol
column_by s c t = if may_be_of c.table t then table_column s t.name.text c.name.text else None

-- the column that a written column refers to, in the first of these tables that has one
abbrev pub pair_column : Schemas → List TableRef → Col → Option BoundCol
pair_column s [] c = None
pair_column s (t ∷ ts) c = option_or (column_by s c t) (pair_column s ts c)

-- the columns, table names and qualifiers that the query may name
abbrev pub pair_names : Schemas → Query → Known
pair_names s q = record {
  column = λ c. is_some (pair_column s (tables q) c);
  table = λ name. is_object_table name || is_source_table name;
  qualifier = is_qualifier (tables q);
}

-- the largest size of a value of a column, and 0 if there is none
abbrev pub size_by : Option BoundCol → ℕ
size_by None = 0
size_by (Some c) = nat_abs (column_bound c.col)

-- the largest size of a value of a column that is written in the query
abbrev pub pair_size : Schemas → Query → Col → ℕ
pair_size s q c = size_by (pair_column s (tables q) c)

-- no column of either table
abbrev pub no_column : BoundCol
no_column = record { second = false; col = COLUMNS_MOST }

-- the column that a column written in the query means; an unknown one, which is refused, means no column
abbrev pub pair_columns : Schemas → Query → Meaning
pair_columns s q c = unwrap_or (pair_column s (tables q) c) no_column
