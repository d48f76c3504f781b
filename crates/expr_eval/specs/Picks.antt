-- What an expression or a condition is evaluated on: a row, or a pair of rows, of one table.
use Rattle.std.specs.Prelude.{◌≡◌, ◌+◌, ℤ, Bool, length, Option, is_some, IfSome, IsTrue, option_copied}
use Rattle.std.specs.Borrow.{Bor}
use Rattle.table_rules.specs.Objects.{Obj}
use Rattle.table_rules.specs.declared.limits.TheConstants.{FIRST_COLUMNS}
use Rattle.sql_bound.specs.declared.expr.BoundCol.{BoundCol}
use Rattle.value_rules.specs.Formulas.{Formula}
use Rattle.value_rules.specs.Laws.{IsWithinBounds}
use Rattle.value_rules.specs.Sound.{has_col, is_sound_at, is_sound_formula}
use Rattle.value_rules.specs.Terms.{Term}
use Rattle.value_rules.specs.Truth.{truth_at}
use Rattle.value_rules.specs.Values.{Pick, cell_of, value_at}

-- the row, with the second row of a pair if there is one
abbrev pub pick_of : Obj → Option (Bor Obj) → Pick
pick_of first second = record { first = first; second = option_copied second }

-- the column is one of the table, and one of the second row only in a pair
abbrev pub is_there : Pick → BoundCol → Bool
is_there p = has_col (FIRST_COLUMNS + length p.first.further) (is_some p.second)

-- the second row of a pair has as many extra values as the first
abbrev pub AreOfOneTable : Pick → Type 0
AreOfOneTable p = IfSome p.second (λ o. length o.further ≡ length p.first.further)

-- Rows as a table has them: each as wide as the other, and with values within the bounds of their columns.
pub record AreRows (p : Pick) : Type 0 where
  pub wide : AreOfOneTable p
  pub within : IsWithinBounds p

-- the columns of the term are there, and no number that it computes is too large
abbrev pub IsSoundTerm : Pick → Term → Type 0
IsSoundTerm p t = IsTrue (is_sound_at (is_there p) t)

-- each term of the formula is well-formed in this sense, and its areas are well-formed
abbrev pub IsSoundTest : Pick → Formula → Type 0
IsSoundTest p f = IsTrue (is_sound_formula (is_there p) f)

-- the value of the term on the row or the pair
abbrev pub value_on : Pick → Term → Option ℤ
value_on p t = value_at (cell_of p) t

-- the truth value of the formula on the row or the pair
abbrev pub truth_on : Pick → Formula → Option Bool
truth_on p f = truth_at (cell_of p) p.first.at f
