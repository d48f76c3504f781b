-- The printed texts of expressions.
use Rattle.std.specs.Prelude.{ℕ, List, [], ◌++◌, Bool, if◌then◌else◌, Option, None, Some, codes}
use Rattle.std.specs.List.{flat_map}
use Rattle.std.specs.Fmt.{signed_decimal}
use Rattle.sql_tree.specs.declared.expr.Atom.{Atom}
use Rattle.sql_tree.specs.declared.expr.Atom.TheFolds.{fold-Atom, fold-Expr, fold-Factor, fold-Prod, fold-Signed}
use Rattle.sql_tree.specs.declared.expr.Atom.TheOpen.{Atom-F, Expr-F, Factor-F, Prod-F, Signed-F}
use Rattle.sql_tree.specs.declared.expr.Expr.{Expr}
use Rattle.sql_tree.specs.declared.expr.Factor.{Factor}
use Rattle.sql_tree.specs.declared.expr.Prod.{Prod}
use Rattle.sql_tree.specs.declared.expr.Signed.{Signed}
use Rattle.sql_tree.specs.declared.name.Col.{Col}
use Rattle.sql_tree.specs.declared.name.Name.{Name}

-- a text, as the list of its bytes
abbrev pub Bytes : Type 0
Bytes = List ℕ

-- the text if the test is true, and else the empty text
abbrev pub text_if : Bool → Bytes → Bytes
text_if there text = if there then text else []

-- each part after the given text
abbrev pub behind_each : Bytes → List Bytes → Bytes
behind_each lead = flat_map (λ part. lead ++ part)

-- a text in brackets
abbrev pub in_brackets : Bytes → Bytes
in_brackets text = codes "(" ++ text ++ codes ")"

-- the text of a column's qualifier and its dot
abbrev pub print_qualifier : Option Name → Bytes
print_qualifier None = []
print_qualifier (Some t) = t.text ++ codes "."

-- the text of a column
abbrev pub print_col : Col → Bytes
print_col c = print_qualifier c.table ++ c.name.text

-- the text of an atom, given the text of its expression
abbrev pub print_atom_step : Atom-F Bytes Bytes Bytes Bytes Bytes → Bytes
print_atom_step (Atom-F.Int n) = signed_decimal n
print_atom_step (Atom-F.Col c) = print_col c
print_atom_step (Atom-F.Bracket e) = in_brackets e

-- the text of a sum, given the texts of its parts
abbrev pub print_expr_step : Expr-F Bytes Bytes Bytes Bytes Bytes → Bytes
print_expr_step e = e.first ++ behind_each [] e.rest

-- the text of a factor, given the text of its atom
abbrev pub print_factor_step : Factor-F Bytes Bytes Bytes Bytes Bytes → Bytes
print_factor_step f = text_if f.minus (codes "-") ++ f.atom

-- the text of a product, given the texts of its factors
abbrev pub print_prod_step : Prod-F Bytes Bytes Bytes Bytes Bytes → Bytes
print_prod_step p = p.first ++ behind_each (codes "*") p.rest

-- the text of a later product of a sum, given the text of the product
abbrev pub print_signed_step : Signed-F Bytes Bytes Bytes Bytes Bytes → Bytes
print_signed_step s = (if s.minus then codes "-" else codes "+") ++ s.prod

-- the text of an atom
unfoldable pub print_atom : Atom → Bytes
print_atom =
    fold-Atom Bytes Bytes Bytes Bytes Bytes print_atom_step print_expr_step print_factor_step print_prod_step
    print_signed_step

-- the text of an expression
unfoldable pub print_expr : Expr → Bytes
print_expr =
    fold-Expr Bytes Bytes Bytes Bytes Bytes print_atom_step print_expr_step print_factor_step print_prod_step
    print_signed_step

-- the text of a factor
unfoldable pub print_factor : Factor → Bytes
print_factor =
    fold-Factor Bytes Bytes Bytes Bytes Bytes print_atom_step print_expr_step print_factor_step print_prod_step
    print_signed_step

-- the text of a product
unfoldable pub print_prod : Prod → Bytes
print_prod =
    fold-Prod Bytes Bytes Bytes Bytes Bytes print_atom_step print_expr_step print_factor_step print_prod_step
    print_signed_step

-- the text of a later product of a sum
unfoldable pub print_signed : Signed → Bytes
print_signed =
    fold-Signed Bytes Bytes Bytes Bytes Bytes print_atom_step print_expr_step print_factor_step print_prod_step
    print_signed_step
