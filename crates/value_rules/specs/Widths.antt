-- Bounds on the numbers of an expression, from its text alone.
use Rattle.std.specs.Prelude.{ℕ, ◌+◌, ◌*◌, ◌≤◌, ℤ, nat_abs, max, Option, None, Some}
use Rattle.sky_vector.specs.declared.limits.TheConstants.{NUMBER_MOST}
use Rattle.table_rules.specs.Objects.{column_bound}
use Rattle.sql_bound.specs.declared.expr.BoundExpr.{BoundExpr}
use Rattle.value_rules.specs.Terms.{Term, Number, Column, Minus, Plus, Less, Times, term_of}

-- the largest size of a term's value: a number's own size, a column's bound, or the sum or product of the parts' sizes
abbrev pub width_at : Term → ℕ
width_at (Number n) = nat_abs n
width_at (Column c) = nat_abs (column_bound c.col)
width_at (Minus t) = width_at t
width_at (Plus t u) = width_at t + width_at u
width_at (Less t u) = width_at t + width_at u
width_at (Times t u) = width_at t * width_at u

-- the largest width of the term and of all its subterms: its parts, and each prefix of a sum or a product
abbrev pub widest_at : Term → ℕ
widest_at (Number n) = nat_abs n
widest_at (Column c) = nat_abs (column_bound c.col)
widest_at (Minus t) = widest_at t
widest_at (Plus t u) = max (width_at t + width_at u) (max (widest_at t) (widest_at u))
widest_at (Less t u) = max (width_at t + width_at u) (max (widest_at t) (widest_at u))
widest_at (Times t u) = max (width_at t * width_at u) (max (widest_at t) (widest_at u))

-- the largest size of an expression's value
abbrev pub width_of : BoundExpr → ℕ
width_of e = width_at (term_of e)

-- the largest size of any number that the expression computes, intermediate results included
abbrev pub widest_of : BoundExpr → ℕ
widest_of e = widest_at (term_of e)

-- NULL, or a number of at most this size
abbrev pub IsOfSize : ℕ → Option ℤ → Type 0
IsOfSize n None = Unit {0}
IsOfSize n (Some z) = nat_abs z ≤ n

-- no number that a query computes is above 2^100 in size
abbrev pub most : ℕ
most = NUMBER_MOST
