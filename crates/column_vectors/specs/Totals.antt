-- The value of a term if NULL counts as 0, and whether the term has a value at all.
use Rattle.std.specs.Prelude.{ℤ, ◌+ℤ◌, ◌-ℤ◌, ◌*ℤ◌, neg_ℤ, Bool, is_some}
use Rattle.table_rules.specs.Objects.{Obj}
use Rattle.column_lists.specs.Columns.{or_zero}
use Rattle.sql_bound.specs.declared.expr.BoundCol.{BoundCol}
use Rattle.value_rules.specs.Terms.{Term, Number, Column, Minus, Plus, Less, Times}
use Rattle.value_rules.specs.Values.{row, cell_of, value_at}

-- the number to which a term evaluates if the columns have these numbers
abbrev pub number_at : (BoundCol → ℤ) → Term → ℤ
number_at cells (Number n) = n
number_at cells (Column c) = cells c
number_at cells (Minus t) = neg_ℤ (number_at cells t)
number_at cells (Plus t u) = number_at cells t +ℤ number_at cells u
number_at cells (Less t u) = number_at cells t -ℤ number_at cells u
number_at cells (Times t u) = number_at cells t *ℤ number_at cells u

-- the number to which a term evaluates on a row, if NULL counts as 0
abbrev pub number_on : Obj → Term → ℤ
number_on o t = number_at (λ c. or_zero (cell_of (row o) c)) t

-- the term has a value on the row
abbrev pub is_known : Obj → Term → Bool
is_known o t = is_some (value_at (cell_of (row o)) t)
