-- The value of an expression on a row or on a pair of rows: a whole number, or None for NULL.
use Rattle.std.specs.Prelude.{ℤ, ◌+ℤ◌, ◌-ℤ◌, ◌*ℤ◌, neg_ℤ, Option, None, Some, option_map, if◌then◌else◌}
use Rattle.std.specs.Option.{option_and_then, option_cmp}
use Rattle.std.specs.Ordering.{int_cmp}
use Rattle.std.specs.declared.cmp.Ordering.{Ordering}
use Rattle.table_rules.specs.Objects.{Obj, cell}
use Rattle.sql_bound.specs.declared.expr.BoundCol.{BoundCol}
use Rattle.sql_bound.specs.declared.expr.BoundExpr.{BoundExpr}
use Rattle.value_rules.specs.Terms.{Term, Number, Column, Minus, Plus, Less, Times, term_of}

-- The row, or the pair of rows, to which a query applies its expressions and conditions.
pub record Pick : Type 0 where
  pub first : Obj
  pub second : Option Obj

-- the row alone
abbrev pub row : Obj → Pick
row o = record { first = o; second = None }

-- the ordered pair
abbrev pub pair : Obj → Obj → Pick
pair u v = record { first = u; second = Some v }

-- the value in a column of the first or of the second row; a missing second row has no value
abbrev pub cell_of : Pick → BoundCol → Option ℤ
cell_of p c = if c.second then option_and_then (λ o. cell o c.col) p.second else cell p.first c.col

-- the result of an operation on two values, which is NULL if one of them is
abbrev pub of_both : (ℤ → ℤ → ℤ) → Option ℤ → Option ℤ → Option ℤ
of_both f None b = None
of_both f (Some a) None = None
of_both f (Some a) (Some b) = Some (f a b)

-- the value of a term, if the columns have these values
abbrev pub value_at : (BoundCol → Option ℤ) → Term → Option ℤ
value_at cells (Number n) = Some n
value_at cells (Column c) = cells c
value_at cells (Minus t) = option_map neg_ℤ (value_at cells t)
value_at cells (Plus t u) = of_both (λ a b. a +ℤ b) (value_at cells t) (value_at cells u)
value_at cells (Less t u) = of_both (λ a b. a -ℤ b) (value_at cells t) (value_at cells u)
value_at cells (Times t u) = of_both (λ a b. a *ℤ b) (value_at cells t) (value_at cells u)

-- the value of an expression on a row or a pair
abbrev pub value_of : BoundExpr → Pick → Option ℤ
value_of e p = value_at (cell_of p) (term_of e)

-- the order of values, NULL before every number
abbrev pub null_first : Option ℤ → Option ℤ → Ordering
null_first = option_cmp int_cmp
