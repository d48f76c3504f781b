-- The rows that have one of some ids.
use Rattle.std.specs.Prelude.{◌≡◌, ℕ, ◌<◌, ℤ, pos, true, List, length, get_or, All, AllPairs, ◌⊎◌}
use Rattle.std.specs.List.{Contains}
use Rattle.value_rules.specs.Truth.{is_one_of}

-- the id at this index is one of those that are wanted
abbrev pub IsWantedAt : (ids wanted : List ℤ) → ℕ → Type 0
IsWantedAt ids wanted k = (k < length ids) × (is_one_of wanted (get_or ids k (pos 0)) ≡ true)

-- The numbers, strictly ascending, of the ids that are wanted, and of no others.
pub record AreWanted (ids wanted : List ℤ) (places : List ℕ) : Type 0 where
  pub up : AllPairs (λ a b. a < b) places
  pub have : All (IsWantedAt ids wanted) places
  pub all : (k : ℕ) → IsWantedAt ids wanted k → Contains places k

-- Strictly ascending numbers, to which one was added unless it was among them.
pub record IsInserted (n : ℕ) (old new : List ℕ) : Type 0 where
  pub up : AllPairs (λ a b. a < b) new
  pub has : Contains new n
  pub kept : (k : ℕ) → Contains old k → Contains new k
  pub only : (k : ℕ) → Contains new k → (k ≡ n) ⊎ Contains old k

-- the row with this number has the id
abbrev pub HasIdAt : (ids : List ℤ) → ℤ → ℕ → Type 0
HasIdAt ids id k = (k < length ids) × (get_or ids k (pos 0) ≡ id)

-- no row has the id
abbrev pub HasNoRow : (ids : List ℤ) → ℤ → Type 0
HasNoRow ids id = (k : ℕ) → k < length ids → get_or ids k (pos 0) ≡ id → ⊥
