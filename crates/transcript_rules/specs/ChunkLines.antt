-- The line that explains the query of each chunk: the chunk query, printed with the names in the query. A query per
-- partition, over a table of that partition, is Qserv's idea (SC 2011); how it is printed is a rule of this repository.
use Rattle.std.specs.Prelude.{ℕ, ◌+◌, ℤ, List, [], ◌∷◌, ◌++◌, map, length, Option, None, Some, slice_get, codes}
use Rattle.std.specs.List.{flat_map}
use Rattle.sql_bound.specs.declared.query.Shape.{Shape}
use Rattle.sql_bound.specs.declared.query.Shape.TheVariants.{Rows, Pairs, Groups}
use Rattle.sql_tree.specs.declared.name.Col.{Col}
use Rattle.sql_tree.specs.declared.query.Item.{Item}
use Rattle.sql_tree.specs.declared.query.ItemKind.{ItemKind}
use Rattle.sql_tree.specs.declared.query.ItemKind.TheVariants as what
use Rattle.sql_tree.specs.declared.query.OrderBy.{OrderBy}
use Rattle.sql_tree.specs.declared.query.Query.{Query}
use Rattle.sql_tree.specs.declared.query.Selection.{Selection}
use Rattle.sql_tree.specs.declared.query.Selection.TheVariants as selection
use Rattle.sql_tree.specs.declared.query.TableRef.{TableRef}
use Rattle.sql_rules.specs.Printed.{print_kind, print_alias, print_where, print_group, print_limit}
use Rattle.sql_rules.specs.PrintedExprs.{Bytes, print_col, text_if}
use Rattle.answer_rules.specs.declared.rewritten.ChunkOrder.{ChunkOrder}
use Rattle.answer_rules.specs.declared.rewritten.ChunkQuery.{ChunkQuery}
use Rattle.bind_rules.specs.Checks.{alias_place}
use Rattle.bind_rules.specs.Columns.{qualifier}
use Rattle.bind_rules.specs.Mentions.{items_of}
use Rattle.transcript_rules.specs.ColumnNames.{column_name, place_names, clause, id_count, id_names}
use Rattle.transcript_rules.specs.RefusalLines.{line}
use Rattle.transcript_rules.specs.Tables.{by_commas, qualified, star_columns}

-- the items of a query without their aliases; a star is its columns
abbrev pub item_texts : List Bytes → Query → Selection → List Bytes
item_texts names q (selection.Star span) = star_columns names q.first q.second
item_texts names q (selection.List l) = map (λ i. print_kind i.what) (l.first ∷ l.rest)

-- the id that is added to rows, or both ids that are added to pairs, the first table's first
abbrev pub id_texts : TableRef → Option TableRef → List Bytes
id_texts first None = codes "objectId" ∷ []
id_texts first (Some second) =
    qualified (qualifier first) (codes "objectId" ∷ []) ++ qualified (qualifier second) (codes "objectId" ∷ [])

-- the expression of an item, if there is one
abbrev pub text_of_item : Option Item → Bytes
text_of_item None = []
text_of_item (Some i) = print_kind i.what

-- the expression of an order key: that of the item at the position whose alias it is, or the column as it is written
abbrev pub key_text_by : Query → Col → Option ℕ → Bytes
key_text_by q c (Some place) = text_of_item (slice_get (items_of q.items) place)
key_text_by q c None = print_col c

-- the expression of the order key, if there is an order
abbrev pub order_texts : Query → Option OrderBy → List Bytes
order_texts q None = []
order_texts q (Some o) = key_text_by q o.key (alias_place q o.key) ∷ []

-- the chunk items of an item of a grouped query: an aggregate is itself, AVG a total and a count, and a plain item has
-- none
abbrev pub part_texts : ItemKind → List Bytes
part_texts (what.Plain e) = []
part_texts what.Count = print_kind what.Count ∷ []
part_texts (what.CountOf e) = print_kind (what.CountOf e) ∷ []
part_texts (what.Sum e) = print_kind (what.Sum e) ∷ []
part_texts (what.Min e) = print_kind (what.Min e) ∷ []
part_texts (what.Max e) = print_kind (what.Max e) ∷ []
part_texts (what.Avg e) = print_kind (what.Sum e) ∷ print_kind (what.CountOf e) ∷ []

-- the items of the chunk query of rows or pairs: the items, the ids, and the order key if there is one
abbrev pub row_texts : List Bytes → Query → List Bytes
row_texts names q = item_texts names q q.items ++ (id_texts q.first q.second ++ order_texts q q.order)

-- the items of the chunk query of a grouped query: the keys, and then the chunk items of each item
abbrev pub group_texts : Query → List Bytes
group_texts q = map print_col q.group ++ flat_map (λ i. part_texts i.what) (items_of q.items)

-- the items of the chunk query of this shape
abbrev pub chunk_texts : List Bytes → Query → Shape → List Bytes
chunk_texts names q Rows = row_texts names q
chunk_texts names q (Pairs limit) = row_texts names q
chunk_texts names q (Groups keys) = group_texts q

-- the tables of the chunk query: the chunk, or a subchunk and the rows near it, each with the alias in the query
abbrev pub chunk_tables : TableRef → Option TableRef → Bytes
chunk_tables first None = codes "Object_c" ++ print_alias first.alias
chunk_tables first (Some second) =
    codes "Object_c_s" ++ (print_alias first.alias ++ (codes ",Object_c_s_near" ++ print_alias second.alias))

-- the order key, which is the column at this position, and DESC if it is descending, or nothing without an order
abbrev pub chunk_key_names : ℕ → Option ChunkOrder → List Bytes
chunk_key_names place None = []
chunk_key_names place (Some o) = (column_name place ++ text_if o.down (codes " DESC")) ∷ []

-- the order of a chunk query of rows or pairs by its columns: the key, whose column follows the ids, and then the ids
abbrev pub chunk_order_names : ChunkQuery → List Bytes
chunk_order_names cq =
    chunk_key_names (length cq.items + id_count cq.shape) cq.order ++ id_names (length cq.items) cq.shape

-- the order and the LIMIT of a chunk query that has a LIMIT: its first rows are those that the merge may need
abbrev pub chunk_limit : ChunkQuery → Option ℤ → Bytes
chunk_limit cq None = []
chunk_limit cq (Some n) = clause (codes " ORDER BY ") (chunk_order_names cq) ++ print_limit (Some n)

-- the chunk query, with the WHERE and the GROUP BY of the query, and with an order if it has a LIMIT
unfoldable pub chunk_line : List Bytes → Query → ChunkQuery → Bytes
chunk_line names q cq =
    line (codes "chunk: SELECT " ++ (by_commas (chunk_texts names q cq.shape) ++ (codes " FROM "
    ++ (chunk_tables q.first q.second ++ (print_where q.cond ++ (print_group q.group ++ chunk_limit cq cq.limit))))))
