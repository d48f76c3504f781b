-- What kernels evaluate on a row, and for which conditions.
use Rattle.std.specs.Prelude.{◌≡◌, ℕ, ◌<◌, ◌≤◌, ℤ, Bool, true, false, IsTrue, List, Option, is_none, is_some}
use Rattle.table_rules.specs.Objects.{Obj, cell}
use Rattle.sql_tree.specs.declared.cond.Cmp.{Cmp}
use Rattle.sql_bound.specs.declared.area.AreaTest.TheVariants.{Cap}
use Rattle.value_rules.specs.Areas.{area_holds}
use Rattle.value_rules.specs.ColumnTests.{is_within, passes}
use Rattle.value_rules.specs.Formulas.{Formula}
use Rattle.value_rules.specs.Sound.{has_col, is_sound_formula}
use Rattle.value_rules.specs.Truth.{is_one_of, is_true, truth_at}
use Rattle.value_rules.specs.Values.{cell_of, row}
use Rattle.chunk_filter.specs.declared.predicate.Vectorized.{Vectorized}
use Rattle.chunk_filter.specs.declared.predicate.Predicate.{Predicate}
use Rattle.chunk_filter.specs.declared.predicate.Predicate.TheVariants.{Compare, Range, Present, Absent, Near}

-- the value compares so with the number, and is not NULL
abbrev pub is_compared : Cmp → ℤ → Option ℤ → Bool
is_compared op n value = passes (record { col = record { second = false; col = 0 }; op = op; number = n }) value

-- the value is from the first number to the last, and is not NULL
abbrev pub is_in_range : ℤ → ℤ → Option ℤ → Bool
is_in_range low high value = is_within (record { col = record { second = false; col = 0 }; low = low; high = high }) value

-- the predicate's result on a row
abbrev pub asks : Predicate → Obj → Bool
asks (Compare col op n) o = is_compared op n (cell o col)
asks (Range col low high) o = is_in_range low high (cell o col)
asks (Present col) o = is_some (cell o col)
asks (Absent col) o = is_none (cell o col)
asks (Near centre n) o = area_holds (Cap centre n) o.at

-- the table has the predicate's column
abbrev pub IsThere : ℕ → Predicate → Type 0
IsThere columns (Compare col op n) = col < columns
IsThere columns (Range col low high) = col < columns
IsThere columns (Present col) = col < columns
IsThere columns (Absent col) = col < columns
IsThere columns (Near centre n) = Unit {0}

-- the formula holds on a row
abbrev pub holds_on : Formula → Obj → Bool
holds_on f o = is_true (truth_at (cell_of (row o)) o.at f)

-- the formula holds on the rows that have one of these ids, and on no others
abbrev pub AsksForIds : Formula → List ℤ → Type 0
AsksForIds f ids = (o : Obj) → holds_on f o ≡ is_one_of ids o.id

-- A predicate that holds on each row on which the formula holds and, if it is the whole formula, on no other. Its
-- column is in the table if the formula can be computed.
pub record IsVectorized (f : Formula) (e : Vectorized) : Type 0 where
  pub kept : (o : Obj) → holds_on f o ≡ true → asks e.test o ≡ true
  pub whole : e.whole ≡ true → (o : Obj) → asks e.test o ≡ holds_on f o
  pub there : (columns : ℕ) → 4 ≤ columns → IsTrue (is_sound_formula (has_col columns false) f) → IsThere columns e.test
