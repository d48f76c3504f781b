-- The line that explains how the partial results of a query become its answer: the merge over the chunk query's
-- columns, which are named c1, c2 and so on.
use Rattle.std.specs.Prelude.{ℕ, ◌+◌, List, [], ◌∷◌, ◌++◌, map, length, Option, None, Some, unwrap_or, slice_get}
use Rattle.std.specs.Prelude.{if◌then◌else◌, codes}
use Rattle.std.specs.Fmt.{signed_decimal}
use Rattle.sql_bound.specs.declared.expr.BoundAtom.TheFolds.{fold-BoundExpr}
use Rattle.sql_bound.specs.declared.expr.BoundAtom.TheOpen.{BoundAtom-F, BoundExpr-F, BoundFactor-F}
use Rattle.sql_bound.specs.declared.expr.BoundAtom.TheOpen.{BoundProd-F, BoundSigned-F}
use Rattle.sql_bound.specs.declared.expr.BoundCol.{BoundCol}
use Rattle.sql_bound.specs.declared.expr.BoundExpr.{BoundExpr}
use Rattle.sql_bound.specs.declared.query.Shape.{Shape}
use Rattle.sql_bound.specs.declared.query.Shape.TheVariants.{Rows, Pairs, Groups}
use Rattle.sql_rules.specs.Printed.{print_limit}
use Rattle.sql_rules.specs.PrintedExprs.{Bytes, text_if, behind_each, in_brackets}
use Rattle.answer_rules.specs.Finish.{keys_by}
use Rattle.answer_rules.specs.Rewriting.{key_place}
use Rattle.answer_rules.specs.declared.rewritten.MergeItem.{MergeItem}
use Rattle.answer_rules.specs.declared.rewritten.MergeItem.TheVariants as merged
use Rattle.answer_rules.specs.declared.rewritten.MergeKey.{MergeKey}
use Rattle.answer_rules.specs.declared.rewritten.MergeKey.TheVariants.{ChunkKey, Item, Key}
use Rattle.answer_rules.specs.declared.rewritten.MergeOrder.{MergeOrder}
use Rattle.answer_rules.specs.declared.rewritten.MergePlan.{MergePlan}
use Rattle.transcript_rules.specs.ColumnNames.{column_name, place_names, clause, id_count, id_names}
use Rattle.transcript_rules.specs.RefusalLines.{line}
use Rattle.transcript_rules.specs.Tables.{by_commas}

-- ---- a plain item of a grouped query

-- an atom, given the text of its expression; a column is written as that of the first equal key
abbrev pub key_atom : List BoundCol → BoundAtom-F Bytes Bytes Bytes Bytes Bytes → Bytes
key_atom keys (BoundAtom-F.Int n) = signed_decimal n
key_atom keys (BoundAtom-F.Col c) = column_name (key_place keys c)
key_atom keys (BoundAtom-F.Bracket e) = in_brackets e

-- a sum, given the texts of its parts
abbrev pub sum_text : BoundExpr-F Bytes Bytes Bytes Bytes Bytes → Bytes
sum_text e = e.first ++ behind_each [] e.rest

-- a factor, given the text of its atom
abbrev pub factor_text : BoundFactor-F Bytes Bytes Bytes Bytes Bytes → Bytes
factor_text f = text_if f.minus (codes "-") ++ f.atom

-- a product, given the texts of its factors
abbrev pub product_text : BoundProd-F Bytes Bytes Bytes Bytes Bytes → Bytes
product_text p = p.first ++ behind_each (codes "*") p.rest

-- a later product of a sum, given its text
abbrev pub signed_text : BoundSigned-F Bytes Bytes Bytes Bytes Bytes → Bytes
signed_text s = (if s.minus then codes "-" else codes "+") ++ s.prod

-- an expression over the keys of a group, printed with the columns of the keys
unfoldable pub key_expr_text : List BoundCol → BoundExpr → Bytes
key_expr_text keys =
    fold-BoundExpr Bytes Bytes Bytes Bytes Bytes (key_atom keys) sum_text factor_text product_text signed_text

-- ---- merged items

-- a function's name and a column in brackets
abbrev pub call : Bytes → ℕ → Bytes
call word place = word ++ in_brackets (column_name place)

-- the merged item of a grouped query by these keys, whose columns precede those of the aggregates
abbrev pub merged_over : List BoundCol → MergeItem → Bytes
merged_over keys (merged.Column n) = column_name n
merged_over keys (merged.OfKeys e) = key_expr_text keys e
merged_over keys (merged.Count n) = call (codes "SUM") (length keys + n)
merged_over keys (merged.Sum n) = call (codes "SUM") (length keys + n)
merged_over keys (merged.Min n) = call (codes "MIN") (length keys + n)
merged_over keys (merged.Max n) = call (codes "MAX") (length keys + n)
merged_over keys (merged.Avg n m) =
    call (codes "SUM") (length keys + n) ++ (codes "/" ++ call (codes "SUM") (length keys + m))

-- the merged items
abbrev pub merged_texts : MergePlan → List Bytes
merged_texts m = map (merged_over (keys_by m.shape)) m.items

-- ---- GROUP BY and ORDER BY

-- the columns that order ties: the ids after the items of rows and pairs, and all keys of a grouped query
abbrev pub tie_names : MergePlan → Shape → List Bytes
tie_names m Rows = id_names (length m.items) Rows
tie_names m (Pairs limit) = id_names (length m.items) (Pairs limit)
tie_names m (Groups keys) = place_names 0 (length keys)

-- the order key: the column after the ids, a merged item, or a key's column
abbrev pub order_key_text : MergePlan → MergeKey → Bytes
order_key_text m ChunkKey = column_name (length m.items + id_count m.shape)
order_key_text m (Item place) = unwrap_or (slice_get (merged_texts m) place) []
order_key_text m (Key place) = column_name place

-- the order key, and DESC if it is descending, or nothing without an order
abbrev pub order_key_texts : MergePlan → Option MergeOrder → List Bytes
order_key_texts m None = []
order_key_texts m (Some o) = (order_key_text m o.key ++ text_if o.down (codes " DESC")) ∷ []

-- the order of the merge: the key if there is one, and then the columns that order ties
abbrev pub merge_order_texts : MergePlan → List Bytes
merge_order_texts m = order_key_texts m m.order ++ tie_names m m.shape

-- the merge
unfoldable pub merge_line : MergePlan → Bytes
merge_line m =
    line (codes "merge: SELECT " ++ (by_commas (merged_texts m) ++ (codes " FROM pieces"
    ++ (clause (codes " GROUP BY ") (place_names 0 (length (keys_by m.shape)))
    ++ (clause (codes " ORDER BY ") (merge_order_texts m) ++ print_limit m.limit)))))
