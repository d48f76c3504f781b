-- Bounds on the numbers of a written expression, given the largest size of a value of each column.
use Rattle.std.specs.Prelude.{ℕ, ◌+◌, ◌*◌, max, nat_abs, nat_lt, Bool, List, [], ◌∷◌, ◌++◌, Option, None, Some}
use Rattle.sky_vector.specs.declared.limits.TheConstants.{NUMBER_MOST}
use Rattle.table_rules.specs.Objects.{column_bound}
use Rattle.sql_tree.specs.declared.cond.Cond.{Cond}
use Rattle.sql_tree.specs.declared.cond.Pred.TheFolds.{fold-Cond}
use Rattle.sql_tree.specs.declared.cond.Pred.TheOpen.{Pred-F}
use Rattle.sql_tree.specs.declared.expr.Atom.TheFolds.{fold-Expr}
use Rattle.sql_tree.specs.declared.expr.Atom.TheOpen.{Atom-F, Expr-F, Factor-F, Prod-F, Signed-F}
use Rattle.sql_tree.specs.declared.expr.Expr.{Expr}
use Rattle.sql_tree.specs.declared.name.Col.{Col}
use Rattle.sql_tree.specs.declared.query.Query.{Query}
use Rattle.table_rules.specs.Names.{column_of}
use Rattle.text_rules.specs.Readings.{joined}
use Rattle.bind_rules.specs.Mentions.{item_exprs}

-- The largest size of an expression's value, and the largest size of all numbers computed, intermediate results
-- included.
pub record Width : Type 0 where
  pub size : ℕ
  pub widest : ℕ

-- the width of a value of this size without intermediate results
abbrev pub just : ℕ → Width
just n = record { size = n; widest = n }

-- the bound of a column, and 0 if the schema has no column of that name
abbrev pub bound_by : Option ℕ → ℕ
bound_by None = 0
bound_by (Some col) = nat_abs (column_bound col)

-- the width of an operation on what is to the left and one more part
abbrev pub and_then : (ℕ → ℕ → ℕ) → Width → Width → Width
and_then op left right = record {
  size = op left.size right.size;
  widest = max (op left.size right.size) (max left.widest right.widest);
}

-- the width of parts combined from the left: each prefix of them counts
abbrev pub taken_from_left : (ℕ → ℕ → ℕ) → Width → List Width → Width
taken_from_left op w [] = w
taken_from_left op w (x ∷ xs) = taken_from_left op (and_then op w x) xs

-- the largest size of a value of a column of the object table, and 0 if it has no such column
abbrev pub column_size : List (List ℕ) → Col → ℕ
column_size names c = bound_by (column_of names c.name.text)

-- the width of an atom
abbrev pub width_at_atom : (Col → ℕ) → Atom-F Width Width Width Width Width → Width
width_at_atom size (Atom-F.Int n) = just (nat_abs n)
width_at_atom size (Atom-F.Col c) = just (size c)
width_at_atom size (Atom-F.Bracket e) = e

-- the width of a sum
abbrev pub width_at_expr : Expr-F Width Width Width Width Width → Width
width_at_expr e = taken_from_left (λ a b. a + b) e.first e.rest

-- the width of a factor
abbrev pub width_at_factor : Factor-F Width Width Width Width Width → Width
width_at_factor f = f.atom

-- the width of a product
abbrev pub width_at_prod : Prod-F Width Width Width Width Width → Width
width_at_prod p = taken_from_left (λ a b. a * b) p.first p.rest

-- the width of a later product of a sum
abbrev pub width_at_signed : Signed-F Width Width Width Width Width → Width
width_at_signed s = s.prod

-- the width of an expression
unfoldable pub width_of : (Col → ℕ) → Expr → Width
width_of size =
    fold-Expr Width Width Width Width Width (width_at_atom size) width_at_expr width_at_factor width_at_prod
    width_at_signed

-- some number of the expression may be above 2^100 in size
abbrev pub is_too_wide : (Col → ℕ) → Expr → Bool
is_too_wide size e = nat_lt NUMBER_MOST (width_of size e).widest

-- expressions
abbrev pub Exprs : Type 0
Exprs = List Expr

-- the expressions of a predicate
abbrev pub exprs_at_pred : Pred-F Exprs Exprs Exprs Exprs → Exprs
exprs_at_pred (Pred-F.Bracket c) = c
exprs_at_pred (Pred-F.Compare left op right) = left ∷ right ∷ []
exprs_at_pred (Pred-F.Between without value low high) = value ∷ low ∷ high ∷ []
exprs_at_pred (Pred-F.Among without value list) = value ∷ []
exprs_at_pred (Pred-F.IsNull without value) = value ∷ []
exprs_at_pred (Pred-F.Area kind span args) = []
exprs_at_pred (Pred-F.Chord left right strict n) = []

-- the expressions of a condition
unfoldable pub exprs_of : Cond → Exprs
exprs_of =
    fold-Cond Exprs Exprs Exprs Exprs exprs_at_pred (λ c. c.first ++ joined c.rest) (λ c. c.first ++ joined c.rest)
    (λ n. n.pred)

-- the expressions of WHERE
abbrev pub exprs_in : Option Cond → Exprs
exprs_in None = []
exprs_in (Some c) = exprs_of c

-- the expressions of a query
abbrev pub all_exprs : Query → Exprs
all_exprs q = item_exprs q ++ exprs_in q.cond
