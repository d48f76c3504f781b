-- Written expressions with their columns in place of names. Which column a name refers to is a parameter; the object
-- table's columns are one case.
use Rattle.std.specs.Prelude.{ℕ, Bool, false, unwrap_or, List, length}
use Rattle.std.specs.Prelude.{Option, Some}
use Rattle.std.specs.Str.{bytes_eq}
use Rattle.sql_bound.specs.declared.expr.BoundAtom.{BoundAtom}
use Rattle.sql_bound.specs.declared.expr.BoundAtom.TheVariants as batom
use Rattle.sql_bound.specs.declared.expr.BoundCol.{BoundCol}
use Rattle.sql_bound.specs.declared.expr.BoundExpr.{BoundExpr, roll-BoundExpr}
use Rattle.sql_bound.specs.declared.expr.BoundFactor.{BoundFactor, roll-BoundFactor}
use Rattle.sql_bound.specs.declared.expr.BoundProd.{BoundProd, roll-BoundProd}
use Rattle.sql_bound.specs.declared.expr.BoundSigned.{BoundSigned, roll-BoundSigned}
use Rattle.sql_tree.specs.declared.expr.Atom.TheFolds.{fold-Expr}
use Rattle.sql_tree.specs.declared.expr.Atom.TheOpen.{Atom-F, Expr-F, Factor-F, Prod-F, Signed-F}
use Rattle.sql_tree.specs.declared.expr.Expr.{Expr}
use Rattle.sql_tree.specs.declared.name.Col.{Col}
use Rattle.sql_tree.specs.declared.name.Name.{Name}
use Rattle.sql_tree.specs.declared.query.Query.{Query}
use Rattle.sql_tree.specs.declared.query.TableRef.{TableRef}
use Rattle.table_rules.specs.Names.{column_names, column_of}
use Rattle.bind_rules.specs.Columns.{qualifier}

-- the column that each written column means
abbrev pub Meaning : Type 0
Meaning = Col → BoundCol

-- ---- the object table

-- The scope of a query's names: the extra columns, and the second table of a join.
pub record Scope : Type 0 where
  pub names : List (List ℕ)
  pub second : Option TableRef

-- the qualifier is that of the second table
abbrev pub is_second : Option TableRef → Option Name → Bool
is_second (Some t) (Some n) = bytes_eq n.text (qualifier t)
is_second _ _ = false

-- the number of the column with this name; an unknown name, which is refused, has the number after the last column
abbrev pub column_number : List (List ℕ) → List ℕ → ℕ
column_number names text = unwrap_or (column_of names text) (length (column_names names))

-- the column that a written column means
abbrev pub bound_col : Scope → Col → BoundCol
bound_col s c = record { second = is_second s.second c.table; col = column_number s.names c.name.text }

-- the columns that the names of a query over the object table refer to
abbrev pub object_columns : List (List ℕ) → Query → Meaning
object_columns names q = bound_col (record { names = names; second = q.second })

-- ---- expressions

-- the bound atom, given its bound parts
abbrev pub atom_by : Meaning → Atom-F BoundAtom BoundExpr BoundFactor BoundProd BoundSigned → BoundAtom
atom_by means (Atom-F.Int n) = batom.Int n
atom_by means (Atom-F.Col c) = batom.Col (means c)
atom_by means (Atom-F.Bracket e) = batom.Bracket e

-- the bound atom over the object table
abbrev pub bound_atom_step : Scope → Atom-F BoundAtom BoundExpr BoundFactor BoundProd BoundSigned → BoundAtom
bound_atom_step s = atom_by (bound_col s)

-- the bound sum, given its bound parts
abbrev pub bound_expr_step : Expr-F BoundAtom BoundExpr BoundFactor BoundProd BoundSigned → BoundExpr
bound_expr_step e = roll-BoundExpr (record { first = e.first; rest = e.rest })

-- the bound factor, given its bound atom
abbrev pub bound_factor_step : Factor-F BoundAtom BoundExpr BoundFactor BoundProd BoundSigned → BoundFactor
bound_factor_step f = roll-BoundFactor (record { minus = f.minus; atom = f.atom })

-- the bound product, given its bound factors
abbrev pub bound_prod_step : Prod-F BoundAtom BoundExpr BoundFactor BoundProd BoundSigned → BoundProd
bound_prod_step p = roll-BoundProd (record { first = p.first; rest = p.rest })

-- the bound later product of a sum, given the bound product
abbrev pub bound_signed_step : Signed-F BoundAtom BoundExpr BoundFactor BoundProd BoundSigned → BoundSigned
bound_signed_step p = roll-BoundSigned (record { minus = p.minus; prod = p.prod })

-- the bound expression
unfoldable pub expr_by : Meaning → Expr → BoundExpr
expr_by means =
    fold-Expr BoundAtom BoundExpr BoundFactor BoundProd BoundSigned (atom_by means) bound_expr_step bound_factor_step
    bound_prod_step bound_signed_step

-- the bound expression over the object table
abbrev pub bound_expr : Scope → Expr → BoundExpr
bound_expr s = expr_by (bound_col s)
