-- The names c1, c2 and so on of a chunk query's columns, as its order and the merge write them.
use Rattle.std.specs.Prelude.{ℕ, ◌+◌, List, [], ◌∷◌, ◌++◌, map, codes}
use Rattle.std.specs.Fmt.{decimal}
use Rattle.std.specs.List.{range_with_len}
use Rattle.sql_bound.specs.declared.query.Shape.{Shape}
use Rattle.sql_bound.specs.declared.query.Shape.TheVariants.{Rows, Pairs, Groups}
use Rattle.sql_rules.specs.PrintedExprs.{Bytes}
use Rattle.transcript_rules.specs.Tables.{by_commas}

-- the name of the column at a position, from 0
abbrev pub column_name : ℕ → Bytes
column_name place = codes "c" ++ decimal (place + 1)

-- the names of the given number of columns from a position on
abbrev pub place_names : ℕ → ℕ → List Bytes
place_names place count = map column_name (range_with_len place count)

-- words followed by texts with commas between them, or nothing if there are no texts
abbrev pub clause : Bytes → List Bytes → Bytes
clause word [] = []
clause word (text ∷ texts) = word ++ by_commas (text ∷ texts)

-- the number of ids after the items of a chunk query
abbrev pub id_count : Shape → ℕ
id_count Rows = 1
id_count (Pairs limit) = 2
id_count (Groups keys) = 0

-- the names of the ids that follow the given number of items
abbrev pub id_names : ℕ → Shape → List Bytes
id_names items shape = place_names items (id_count shape)
