-- The lines that explain a query, each from one of its parts on, and what an item adds to them.
use Rattle.std.specs.Prelude.{ℕ, ◌+◌, List, ◌++◌, length, codes}
use Rattle.std.specs.Fmt.{decimal}
use Rattle.sql_bound.specs.declared.expr.BoundAtom.{BoundAtom}
use Rattle.sql_bound.specs.declared.expr.BoundAtom.TheFolds.{fold-BoundAtom, fold-BoundFactor, fold-BoundProd}
use Rattle.sql_bound.specs.declared.expr.BoundAtom.TheFolds.{fold-BoundSigned}
use Rattle.sql_bound.specs.declared.expr.BoundCol.{BoundCol}
use Rattle.sql_bound.specs.declared.expr.BoundFactor.{BoundFactor}
use Rattle.sql_bound.specs.declared.expr.BoundProd.{BoundProd}
use Rattle.sql_bound.specs.declared.expr.BoundSigned.{BoundSigned}
use Rattle.sql_bound.specs.declared.query.Shape.{Shape}
use Rattle.sql_bound.specs.declared.query.Shape.TheVariants.{Rows, Pairs, Groups}
use Rattle.sql_tree.specs.declared.query.Item.{Item}
use Rattle.sql_tree.specs.declared.query.Query.{Query}
use Rattle.sql_rules.specs.Printed.{print_group, print_kind, print_limit, print_where}
use Rattle.sql_rules.specs.PrintedExprs.{Bytes}
use Rattle.answer_rules.specs.declared.rewritten.ChunkQuery.{ChunkQuery}
use Rattle.answer_rules.specs.declared.rewritten.MergePlan.{MergePlan}
use Rattle.answer_rules.specs.Finish.{keys_by}
use Rattle.transcript_rules.specs.ChunkLines.{chunk_limit, chunk_tables, chunk_texts, part_texts}
use Rattle.transcript_rules.specs.ColumnNames.{clause}
use Rattle.transcript_rules.specs.MergeLines.{factor_text, key_atom, merged_texts, order_key_texts}
use Rattle.transcript_rules.specs.ColumnNames.{place_names}
use Rattle.transcript_rules.specs.MergeLines.{product_text, signed_text, sum_text, tie_names}
use Rattle.transcript_rules.specs.Tables.{by_commas}

-- ---- the chunk query

-- an item without its alias
abbrev pub kind_text : Item → Bytes
kind_text i = print_kind i.what

-- what an item of a grouped query adds to the chunk query
abbrev pub parts_of : Item → List Bytes
parts_of i = part_texts i.what

-- the rest of the line of the chunk query from the tables on
abbrev pub from_tables : Query → ChunkQuery → Bytes
from_tables q cq =
    chunk_tables q.first q.second ++ (print_where q.cond ++ (print_group q.group ++ chunk_limit cq cq.limit))

-- the rest of the line of the chunk query from the items on
abbrev pub from_items : List Bytes → Query → ChunkQuery → Bytes
from_items names q cq = by_commas (chunk_texts names q cq.shape) ++ (codes " FROM " ++ from_tables q cq)

-- ---- the merge

-- for the given number of merged items, the position of the first of the columns that ties are ordered by
abbrev pub tie_start : ℕ → Shape → ℕ
tie_start items Rows = items
tie_start items (Pairs limit) = items
tie_start items (Groups keys) = 0

-- the position after the last of the columns that ties are ordered by
abbrev pub tie_end : ℕ → Shape → ℕ
tie_end items Rows = items + 1
tie_end items (Pairs limit) = items + 2
tie_end items (Groups keys) = length keys

-- the rest of the line of the merge from the order on
abbrev pub from_order : MergePlan → Bytes
from_order m = clause (codes " ORDER BY ") (order_key_texts m m.order ++ tie_names m m.shape) ++ print_limit m.limit

-- the rest of the line of the merge after the pieces
abbrev pub from_keys : MergePlan → Bytes
from_keys m = clause (codes " GROUP BY ") (place_names 0 (length (keys_by m.shape))) ++ from_order m

-- the rest of the line of the merge from the merged items on
abbrev pub from_merged : MergePlan → Bytes
from_merged m = by_commas (merged_texts m) ++ (codes " FROM pieces" ++ from_keys m)

-- ---- a plain item of a grouped query

-- an atom
unfoldable pub key_atom_text : List BoundCol → BoundAtom → Bytes
key_atom_text keys = fold-BoundAtom Bytes Bytes Bytes Bytes Bytes (key_atom keys) sum_text factor_text product_text signed_text

-- a factor
unfoldable pub key_factor_text : List BoundCol → BoundFactor → Bytes
key_factor_text keys =
    fold-BoundFactor Bytes Bytes Bytes Bytes Bytes (key_atom keys) sum_text factor_text product_text signed_text

-- a product
unfoldable pub key_prod_text : List BoundCol → BoundProd → Bytes
key_prod_text keys = fold-BoundProd Bytes Bytes Bytes Bytes Bytes (key_atom keys) sum_text factor_text product_text signed_text

-- a product of a sum after the first, with its sign
unfoldable pub key_signed_text : List BoundCol → BoundSigned → Bytes
key_signed_text keys =
    fold-BoundSigned Bytes Bytes Bytes Bytes Bytes (key_atom keys) sum_text factor_text product_text signed_text

-- ---- the chunks

-- a chunk after a space
abbrev pub spaced_number : ℕ → Bytes
spaced_number c = codes " " ++ decimal c
