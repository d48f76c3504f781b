-- A column of a block that is read at selected rows.
use Rattle.std.specs.Prelude.{ℕ, ◌<◌, ◌≤◌, ℤ, pos, nat_abs, false, All, List, length, get_or, map}
use Rattle.sql_bound.specs.declared.expr.BoundCol.{BoundCol}
use Rattle.table_rules.specs.declared.limits.TheConstants.{FURTHER_MOST}

-- a column of the first row
abbrev pub first_col : ℕ → BoundCol
first_col col = record { second = false; col = col }

-- the numbers of a column at the rows with these numbers
abbrev pub numbers_at : List ℤ → List ℕ → List ℤ
numbers_at values places = map (λ place. get_or values place (pos 0)) places

-- Numbers of an extra column, and row numbers within it.
pub record IsPickedColumn (values : List ℤ) (places : List ℕ) : Type 0 where
  pub there : All (λ place. place < length values) places
  pub fits : All (λ z. nat_abs z ≤ FURTHER_MOST) values
