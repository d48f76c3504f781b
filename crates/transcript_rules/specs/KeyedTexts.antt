-- The printed text of a plain item of a grouped query, with each column written as that of its key.
use Rattle.std.specs.Prelude.{◌≡◌, List}
use Rattle.std.specs.Fmt.{signed_decimal}
use Rattle.sql_bound.specs.declared.expr.BoundCol.{BoundCol}
use Rattle.sql_tree.specs.declared.expr.Atom.TheFolds.{fold-Expr}
use Rattle.sql_tree.specs.declared.expr.Atom.TheOpen.{Atom-F}
use Rattle.sql_tree.specs.declared.expr.Expr.{Expr}
use Rattle.sql_rules.specs.PrintedExprs.{Bytes, in_brackets, print_expr_step, print_factor_step, print_prod_step}
use Rattle.sql_rules.specs.PrintedExprs.{print_signed_step}
use Rattle.bind_rules.specs.Bounds.{Scope, bound_col, bound_expr}
use Rattle.answer_rules.specs.Rewriting.{key_place}
use Rattle.transcript_rules.specs.ColumnNames.{column_name}
use Rattle.transcript_rules.specs.MergeLines.{key_expr_text}

-- an atom, printed with the column of the first equal key
abbrev pub keyed_step : Scope → List BoundCol → Atom-F Bytes Bytes Bytes Bytes Bytes → Bytes
keyed_step s keys (Atom-F.Int n) = signed_decimal n
keyed_step s keys (Atom-F.Col c) = column_name (key_place keys (bound_col s c))
keyed_step s keys (Atom-F.Bracket e) = in_brackets e

-- the printed text of a written expression, with each column written as that of its key
unfoldable pub keyed_text : Scope → List BoundCol → Expr → Bytes
keyed_text s keys =
    fold-Expr Bytes Bytes Bytes Bytes Bytes (keyed_step s keys) print_expr_step print_factor_step print_prod_step
    print_signed_step

-- the text of an item's expression in a merge is its printed text with each column written as that of its key
abbrev pub PlainItemsByKeys : Type 0
PlainItemsByKeys =
    (s : Scope) (keys : List BoundCol) (e : Expr) → key_expr_text keys (bound_expr s e) ≡ keyed_text s keys e
