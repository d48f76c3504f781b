-- The lines of an answer: its headings, its rows, and the numbers of rows and chunks.
use Rattle.std.specs.Prelude.{ℕ, List, [], ◌∷◌, ◌++◌, map, length, Option, None, Some, codes}
use Rattle.std.specs.Fmt.{decimal, signed_decimal}
use Rattle.std.specs.List.{flat_map}
use Rattle.table_rules.specs.Names.{column_names}
use Rattle.text_rules.specs.Numbers.{four_decimals}
use Rattle.sql_tree.specs.declared.query.Query.{Query}
use Rattle.sql_tree.specs.declared.query.Selection.{Selection}
use Rattle.sql_tree.specs.declared.query.Selection.TheVariants as selection
use Rattle.sql_tree.specs.declared.query.TableRef.{TableRef}
use Rattle.sql_rules.specs.Printed.{heading}
use Rattle.sql_rules.specs.PrintedExprs.{Bytes, behind_each}
use Rattle.bind_rules.specs.Columns.{qualifier}
use Rattle.answer_rules.specs.declared.value.Value.{Value}
use Rattle.answer_rules.specs.declared.value.Value.TheVariants.{Null, Whole, Fixed4}
use Rattle.transcript_rules.specs.RefusalLines.{line}

-- texts with commas between them
abbrev pub by_commas : List Bytes → Bytes
by_commas [] = []
by_commas (text ∷ texts) = text ++ behind_each (codes ",") texts

-- these columns with a qualifier
abbrev pub qualified : Bytes → List Bytes → List Bytes
qualified side names = map (λ name. side ++ (codes "." ++ name)) names

-- the names of the columns of a star over these tables: in a join qualified, first all of the first table, then all of
-- the second
abbrev pub star_columns : List Bytes → TableRef → Option TableRef → List Bytes
star_columns names first None = column_names names
star_columns names first (Some second) =
    qualified (qualifier first) (column_names names) ++ qualified (qualifier second) (column_names names)

-- the headings of a select list over the schema of these extra columns
abbrev pub headings_of : List Bytes → Query → Selection → List Bytes
headings_of names q (selection.Star span) = star_columns names q.first q.second
headings_of names q (selection.List l) = map heading (l.first ∷ l.rest)

-- the headings of a query
unfoldable pub headings : List Bytes → Query → List Bytes
headings names q = headings_of names q q.items

-- a value: NULL, a whole number in decimal, an average with four decimals
abbrev pub value_text : Value → Bytes
value_text Null = codes "NULL"
value_text (Whole z) = signed_decimal z
value_text (Fixed4 z) = four_decimals z

-- the line of a row
abbrev pub row_line : List Value → Bytes
row_line row = line (by_commas (map value_text row))

-- `R rows, C chunks`
abbrev pub count_line : ℕ → ℕ → Bytes
count_line rows chunks = line (decimal rows ++ (codes " rows, " ++ (decimal chunks ++ codes " chunks")))

-- the lines of an answer under these headings, whose plan has the given number of chunks
unfoldable pub table_lines : List Bytes → List (List Value) → ℕ → Bytes
table_lines headings rows chunks =
    line (by_commas headings) ++ (flat_map row_line rows ++ count_line (length rows) chunks)
