-- The span of the first part of a query that passes a test.
use Rattle.std.specs.Prelude.{Bool, List, Option}
use Rattle.std.specs.List.{find}
use Rattle.std.specs.Option.{option_map}
use Rattle.sql_token.specs.declared.token.Span.{Span}
use Rattle.sql_tree.specs.declared.expr.Atom.{Atom}
use Rattle.sql_tree.specs.declared.expr.Atom.TheFolds.{fold-Atom, fold-Factor, fold-Prod, fold-Signed}
use Rattle.sql_tree.specs.declared.expr.Factor.{Factor}
use Rattle.sql_tree.specs.declared.expr.Prod.{Prod}
use Rattle.sql_tree.specs.declared.expr.Signed.{Signed}
use Rattle.bind_rules.specs.Mentions.{Cols, cols_at_atom, cols_at_expr, cols_at_factor, cols_at_prod, cols_at_signed}

-- the span of the first of them that passes the test
unfoldable pub first_place : {A : Type 0} → (A → Span) → (A → Bool) → List A → Option Span
first_place span test xs = option_map span (find test xs)

-- the columns of an atom
unfoldable pub atom_columns : Atom → Cols
atom_columns = fold-Atom Cols Cols Cols Cols Cols cols_at_atom cols_at_expr cols_at_factor cols_at_prod cols_at_signed

-- the columns of a factor
unfoldable pub factor_columns : Factor → Cols
factor_columns =
    fold-Factor Cols Cols Cols Cols Cols cols_at_atom cols_at_expr cols_at_factor cols_at_prod cols_at_signed

-- the columns of a product
unfoldable pub prod_columns : Prod → Cols
prod_columns = fold-Prod Cols Cols Cols Cols Cols cols_at_atom cols_at_expr cols_at_factor cols_at_prod cols_at_signed

-- the columns of a product with its sign
unfoldable pub signed_columns : Signed → Cols
signed_columns =
    fold-Signed Cols Cols Cols Cols Cols cols_at_atom cols_at_expr cols_at_factor cols_at_prod cols_at_signed
