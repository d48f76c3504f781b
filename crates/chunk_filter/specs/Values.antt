-- The values of an expression on selected rows.
use Rattle.std.specs.Prelude.{ℕ, ◌≤◌, ℤ, List, length, map, Option, None, Some, All}
use Rattle.table_rules.specs.Objects.{Obj}
use Rattle.sql_bound.specs.declared.expr.BoundExpr.{BoundExpr}
use Rattle.value_rules.specs.Values.{row, value_of}
use Rattle.value_rules.specs.Widths.{IsOfSize, most}

-- the values of an expression on some rows
abbrev pub values_on : BoundExpr → List Obj → List (Option ℤ)
values_on e objects = map (λ o. value_of e (row o)) objects

-- there are enough values for the given number of rows, and none is too large
abbrev pub IsReady : ℕ → Option (List (Option ℤ)) → Type 0
IsReady to None = Unit {0}
IsReady to (Some values) = (to ≤ length values) × All (IsOfSize most) values
