-- Columns that are gathered in parts: so far, each has the values at the first n of some indexes, n being one for all.
use Rattle.std.specs.Prelude.{◌≡◌, ℕ, ◌<◌, ◌≤◌, Bool, true, ◌⊎◌, List, [], length, get_or}
use Rattle.column_lists.specs.Columns.{GathersUpTo, Parts}

-- The values at the first n indexes, and no others.
pub record IsFilled {X : Type 0} (n : ℕ) (values : List X) (places : List ℕ) (found : List X) : Type 0 where
  pub count : length found ≡ n
  pub each : GathersUpTo n values places found

-- The validity at the first n indexes: that of each index, or none at all if each of these rows has a value.
pub record IsPresenceUpTo (n : ℕ) (present : List Bool) (places : List ℕ) (found : List Bool) : Type 0 where
  pub presence : (found ≡ []) ⊎ (length found ≡ n)
  pub each : (k : ℕ) → k < n → get_or found k true ≡ get_or present (get_or places k 0) true

-- Columns that have a table's rows at the first n indexes.
pub record AreFilled (n : ℕ) (table : Parts) (places : List ℕ) (p : Parts) : Type 0 where
  pub ids : IsFilled n table.ids places p.ids
  pub xs : IsFilled n table.xs places p.xs
  pub ys : IsFilled n table.ys places p.ys
  pub zs : IsFilled n table.zs places p.zs
  pub wide : length p.further ≡ length table.further
  pub further : (j : ℕ) → j < length table.further → IsFilled n (get_or table.further j []) places (get_or p.further j [])

-- Columns whose n rows are a table's rows at the first n indexes.
pub record AreBegun (table : Parts) (places : List ℕ) (p : Parts) : Type 0 where
  pub few : length p.ids ≤ length places
  pub filled : AreFilled (length p.ids) table places p
