-- Masks: a truth value for each index.
use Rattle.std.specs.Prelude.{◌≡◌, ℕ, ◌<◌, Bool, false, List, length, get_or}

-- A mask of the given length, with the given truth value at each index.
pub record IsMask (count : ℕ) (says : ℕ → Bool) (mask : List Bool) : Type 0 where
  pub len : length mask ≡ count
  pub each : (k : ℕ) → k < count → get_or mask k false ≡ says k
