-- Conditions that name objects by their ids, and the sources of these.
use Rattle.std.specs.Prelude.{◌≡◌, ℕ, ◌%◌, ℤ, pos, Bool, false, List, Option, Some, get_or, filter}
use Rattle.std.specs.Int.{cast_unsigned, w64}
use Rattle.std.specs.List.{range_with_len}
use Rattle.sky_vector.specs.Points.{Point}
use Rattle.source_rules.specs.Sources.{Source}
use Rattle.sql_bound.specs.declared.cond.BoundCond.{BoundCond}
use Rattle.sql_bound.specs.declared.expr.BoundCol.{BoundCol}
use Rattle.value_rules.specs.Formulas.{Formula}
use Rattle.value_rules.specs.Truth.{is_one_of, is_true, truth_at}
use Rattle.child_rules.specs.Columns.{source_col}
use Rattle.source_filter.specs.Candidates.{IsUnmet}

-- a source whose objectId does not pass the test does not meet the conditions with its object
abbrev pub NamesObjects : List BoundCond → (ℤ → Bool) → Type 0
NamesObjects conds test = (s : Source) → test s.object ≡ false → IsUnmet conds s

-- among the numbers below n, ascending, those at which the ids pass the test
abbrev pub numbers_where : (ℤ → Bool) → List ℤ → ℕ → List ℕ
numbers_where test ids n = filter (λ k. test (get_or ids k (pos 0))) (range_with_len 0 n)

-- the formula does not hold where the objectId is none of these ids
abbrev pub ListsObjects : Formula → List ℤ → Type 0
ListsObjects f ids =
    (cells : BoundCol → Option ℤ) (at : Point) (id : ℤ) → cells (source_col 1) ≡ Some id → is_one_of ids id ≡ false
    → is_true (truth_at cells at f) ≡ false

-- the number of an id's flag: its lowest 12 bits
abbrev pub flag_number : ℤ → ℕ
flag_number id = cast_unsigned w64 id % 4096
