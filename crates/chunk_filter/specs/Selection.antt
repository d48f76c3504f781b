-- Which rows of a block meet conditions, as masks and as row numbers.
use Rattle.std.specs.Prelude.{◌≡◌, ℕ, ◌<◌, Bool, true, false, List, length, map, get_or, slice_get, Some, All}
use Rattle.chunk_rules.specs.Places.{places_by}
use Rattle.table_rules.specs.Objects.{Obj}
use Rattle.sql_bound.specs.declared.cond.BoundCond.{BoundCond}
use Rattle.sky_row.specs.Columns.{no_row}
use Rattle.value_rules.specs.Truth.{holds, meets}
use Rattle.value_rules.specs.Values.{row}

-- the condition holds on the row with a number
abbrev pub holds_at : BoundCond → List Obj → ℕ → Bool
holds_at c objects k = holds c (row (get_or objects k no_row))

-- the row with a number meets all of the conditions
abbrev pub meets_at : List BoundCond → List Obj → ℕ → Bool
meets_at conds objects k = meets conds (row (get_or objects k no_row))

-- a flag for each row: that it meets all of the conditions
abbrev pub mask_of : List BoundCond → List Obj → List Bool
mask_of conds objects = map (λ o. meets conds (row o)) objects

-- the numbers, ascending, of the rows that meet all of the conditions
abbrev pub selection : List BoundCond → List Obj → List ℕ
selection conds objects = places_by (λ o. meets conds (row o)) objects

-- A mask before and after a kernel may have evaluated a condition. No row is added, and no row is removed on which the
-- condition holds. If the condition is completely evaluated, no row remains on which it does not hold.
pub record IsNarrowedBy (c : BoundCond) (objects : List Obj) (flag : Bool) (old new : List Bool) : Type 0 where
  pub count : length new ≡ length old
  pub back : (k : ℕ) → k < length old → get_or new k false ≡ true → get_or old k false ≡ true
  pub kept : (k : ℕ) → k < length old → get_or old k false ≡ true → holds_at c objects k ≡ true → get_or new k false ≡ true
  pub done : flag ≡ true → (k : ℕ) → k < length old → get_or new k false ≡ true → holds_at c objects k ≡ true

-- The mask after all kernels. Each row that meets all conditions is in it, and each row in it meets the conditions that
-- are completely evaluated.
pub record IsNarrowed (conds : List BoundCond) (objects : List Obj) (flags mask : List Bool) : Type 0 where
  pub count : length mask ≡ length objects
  pub kept : (k : ℕ) → k < length objects → meets_at conds objects k ≡ true → get_or mask k false ≡ true
  pub done : (i k : ℕ) (c : BoundCond) → slice_get conds i ≡ Some c → get_or flags i false ≡ true → k < length objects
      → get_or mask k false ≡ true → holds_at c objects k ≡ true

-- each row with one of these numbers meets the conditions that are completely evaluated
abbrev pub AreDone : List BoundCond → List Obj → List Bool → List ℕ → Type 0
AreDone conds objects done places =
    (i : ℕ) (c : BoundCond) → slice_get conds i ≡ Some c → get_or done i false ≡ true
    → All (λ k. holds_at c objects k ≡ true) places
