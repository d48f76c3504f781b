-- The items of a chunk query, part by part.
use Rattle.std.proofs.Common.{codes, ◌≡◌, List, [], ◌∷◌, ◌++◌, map, refl, ap, ◌∙◌, append-nil, true, Option, None, Some}
use Rattle.std.proofs.lemmas.Grind.{flat_map-append}
use Rattle.sql_tree.specs.declared.name.Col.{Col}
use Rattle.sql_tree.specs.declared.query.Query.{Query}
use Rattle.sql_tree.specs.declared.query.Selection.{Selection}
use Rattle.sql_tree.specs.declared.query.Selection.TheVariants as selection
use Rattle.sql_tree.specs.declared.query.TableRef.{TableRef}
use Rattle.sql_rules.specs.PrintedExprs.{Bytes, behind_each, print_col}
use Rattle.bind_rules.specs.Columns.{qualifier}
use Rattle.transcript_rules.specs.ChunkLines.{id_texts, item_texts, order_texts, row_texts}
use Rattle.transcript_rules.specs.Tables.{by_commas, star_columns}
use Rattle.column_text.specs.Parted.{dotted, has_any, parted}
use Rattle.column_text.proofs.Parting.{any_more, commas_more}

-- a star stands for columns
star_there : (names : List Bytes) (first : TableRef) (second : Option TableRef) → has_any (star_columns names first second) ≡ true
star_there names first None = refl
star_there names first (Some second) = refl

-- a query has items
items_there : (names : List Bytes) (q : Query) (items : Selection) → has_any (item_texts names q items) ≡ true
items_there names q (selection.Star span) = star_there names q.first q.second
items_there names q (selection.List l) = refl

-- the items of rows and pairs, and each of the ids and the order key behind a comma
pub row_parts : (names : List Bytes) (q : Query)
    → by_commas (row_texts names q)
    ≡ by_commas (item_texts names q q.items)
    ++ (behind_each (codes ",") (id_texts q.first q.second) ++ behind_each (codes ",") (order_texts q q.order))
row_parts names q =
    any_more (item_texts names q q.items) (id_texts q.first q.second ++ order_texts q q.order) (items_there names q q.items)
    ∙ ap (λ w. by_commas (item_texts names q q.items) ++ w)
    (flat_map-append (λ part. codes "," ++ part) (id_texts q.first q.second) (order_texts q q.order))

-- both ids of a pair
pub two_ids : (first second : TableRef)
    → behind_each (codes ",") (id_texts first (Some second))
    ≡ (codes "," ++ dotted (qualifier first) (codes ".") (codes "objectId"))
    ++ (codes "," ++ dotted (qualifier second) (codes ".") (codes "objectId"))
two_ids first second =
    ap (λ w. (codes "," ++ dotted (qualifier first) (codes ".") (codes "objectId")) ++ w)
    (append-nil (codes "," ++ dotted (qualifier second) (codes ".") (codes "objectId")))

-- one text behind a comma
pub one_behind : (text : Bytes) → behind_each (codes ",") (text ∷ []) ≡ codes "," ++ text
one_behind text = append-nil (codes "," ++ text)

-- the keys of a grouping, and what follows them
pub keys_first : (first : Col) (rest : List Col) (parts : List Bytes)
    → by_commas (map print_col (first ∷ rest) ++ parts)
    ≡ (print_col first ++ behind_each (codes ",") (map print_col rest)) ++ parted true parts
keys_first first rest parts = commas_more (print_col first) (map print_col rest) parts
