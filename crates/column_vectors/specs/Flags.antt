-- The rows on which a condition is true, and those on which it is false; on the others it is unknown.
use Rattle.std.specs.Prelude.{◌≡◌, ℕ, ℤ, pos, Bool, true, false, not, ◌&&◌, ◌||◌, List, length, get_or, map, Option, None, Some, if◌then◌else◌}
use Rattle.std.specs.List.{range_with_len}
use Rattle.sky_row.specs.Columns.{no_row}
use Rattle.sql_bound.specs.declared.area.AreaTest.{AreaTest}
use Rattle.sql_tree.specs.declared.cond.Cmp.{Cmp}
use Rattle.table_rules.specs.Objects.{Obj}
use Rattle.value_rules.specs.Areas.{area_holds}
use Rattle.value_rules.specs.Formulas.{Formula}
use Rattle.value_rules.specs.Truth.{compares, is_true, truth_at, truth_not}
use Rattle.value_rules.specs.Values.{cell_of, row}
use Rattle.column_vectors.specs.declared.flags.Flags.{Flags}
use Rattle.column_vectors.specs.declared.lane.Lane.{Lane}
use Rattle.column_vectors.specs.Lanes.{numbers_of}
use Rattle.column_vectors.specs.Masks.{IsMask}

-- the truth value of a formula on a row
abbrev pub truth_on : Obj → Formula → Option Bool
truth_on o f = truth_at (cell_of (row o)) o.at f

-- Masks of the rows on which a formula is true, and of those on which it is false.
pub record AreFlags (rows : List Obj) (f : Formula) (flags : Flags) : Type 0 where
  pub true_on : IsMask (length rows) (λ k. is_true (truth_on (get_or rows k no_row) f)) flags.true_on.items
  pub false_on : IsMask (length rows) (λ k. is_true (truth_not (truth_on (get_or rows k no_row) f))) flags.false_on.items

-- the flags of truth values at the valid rows; the others are unknown
pub record AreKnown (known truth : List Bool) (flags : Flags) : Type 0 where
  pub true_on : IsMask (length known) (λ k. get_or known k false && get_or truth k false) flags.true_on.items
  pub false_on : IsMask (length known) (λ k. get_or known k false && not (get_or truth k false)) flags.false_on.items

-- the old flags, or with `negated` the old ones with their two masks exchanged
pub record AreNegated (negated : Bool) (old new : Flags) : Type 0 where
  pub true_on : new.true_on.items ≡ (if negated then old.false_on.items else old.true_on.items)
  pub false_on : new.false_on.items ≡ (if negated then old.true_on.items else old.false_on.items)

-- the flags of AND: true at each row at which both are true, and false at each row at which one is false
pub record AreAnd (left right joined : Flags) : Type 0 where
  pub true_on : IsMask (length left.true_on.items) (λ k. get_or left.true_on.items k false && get_or right.true_on.items k false) joined.true_on.items
  pub false_on : IsMask (length left.false_on.items) (λ k. get_or left.false_on.items k false || get_or right.false_on.items k false) joined.false_on.items

-- the flags of OR: true at each row at which one is true, and false at each row at which both are false
pub record AreOr (left right joined : Flags) : Type 0 where
  pub true_on : IsMask (length left.true_on.items) (λ k. get_or left.true_on.items k false || get_or right.true_on.items k false) joined.true_on.items
  pub false_on : IsMask (length left.false_on.items) (λ k. get_or left.false_on.items k false && get_or right.false_on.items k false) joined.false_on.items

-- the truth value that two flags represent
abbrev pub truth_by : Bool → Bool → Option Bool
truth_by true_on false_on = if true_on then Some true else if false_on then Some false else None

-- the truth values of all rows
abbrev pub truths_in : List Bool → List Bool → List (Option Bool)
truths_in true_on false_on = map (λ k. truth_by (get_or true_on k false) (get_or false_on k false)) (range_with_len 0 (length true_on))

-- the flags of a comparison: true at each row at which both are valid and the comparison of their numbers is true, and
-- false at each row at which both are valid and it is not
pub record AreCompared (op : Cmp) (left right : Lane) (flags : Flags) : Type 0 where
  pub true_on : IsMask (length left.known.items) (λ k. (get_or left.known.items k false && get_or right.known.items k false)
      && compares op (get_or (numbers_of left.numbers) k (pos 0)) (get_or (numbers_of right.numbers) k (pos 0))) flags.true_on.items
  pub false_on : IsMask (length left.known.items) (λ k. (get_or left.known.items k false && get_or right.known.items k false)
      && not (compares op (get_or (numbers_of left.numbers) k (pos 0)) (get_or (numbers_of right.numbers) k (pos 0)))) flags.false_on.items

-- the area contains the point whose components have an index
abbrev pub area_at : AreaTest → List ℤ → List ℤ → List ℤ → ℕ → Bool
area_at test xs ys zs place =
    area_holds test (record { x = get_or xs place (pos 0); y = get_or ys place (pos 0); z = get_or zs place (pos 0) })
