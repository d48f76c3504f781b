-- The form of a table: what its records have to be.
-- A record is the list of its fields, and a field is its bytes. Columns are numbered from 0, and in a fault from 1.
use Rattle.std.specs.Prelude.{ℕ, ◌+◌, ℤ, Bool, List, length}
use Rattle.table_rules.specs.Names.{can_be_next}
use Rattle.table_rules.specs.declared.limits.TheConstants.{FURTHER_COLUMNS_MOST}
use Rattle.table_rules.specs.declared.fault.LoadFault.{LoadFault}

-- A form: the names of the columns that every table has, the least and the largest number in each column, the row that a
-- record spells, the id of a row, and the faults of a record as a whole, given the number of its row.
pub record Form (R : Type 0) : Type 0 where
  pub first : List (List ℕ)
  pub least : ℕ → ℤ
  pub most : ℕ → ℤ
  pub row : List (List ℕ) → R
  pub id : R → ℤ
  pub whole : ℕ → List (List ℕ) → List LoadFault

-- the text can be the name of one more column after these, in a table of this form, which has at most 12 extra ones
abbrev pub may_follow : {R : Type 0} → Form R → List (List ℕ) → List ℕ → Bool
may_follow form columns text = can_be_next (length form.first + FURTHER_COLUMNS_MOST) columns text
