-- Masks of sources that are narrowed: a flag for each source, which is cleared if the source is left out.
use Rattle.std.specs.Prelude.{◌≡◌, ◌⊎◌, ℕ, ◌<◌, Bool, false, List, length, get_or}

-- A mask before and after it is narrowed: a flag is cleared only where something fails.
pub record IsNarrowedBy (fails : ℕ → Type 0) (old new : List Bool) : Type 0 where
  pub count : length new ≡ length old
  pub cleared : (k : ℕ) → k < length old → get_or new k false ≡ false → (get_or old k false ≡ false) ⊎ fails k
