-- A sparse index of ascending ids: rows are divided into granules of `GRANULE` rows, and an entry is stored for each
-- granule.
use Rattle.std.specs.Prelude.{◌≡◌, ℕ, ◌+◌, ◌*◌, ◌<◌, ◌≤◌, ℤ, ◌<ℤ◌, pos, List, length, get_or}
use Rattle.std.specs.Int.{div_ceil}
use Rattle.object_index.specs.declared.granules.TheConstants.{GRANULE}

-- the number of granules of the given number of rows, of which the last may have fewer rows than the others
abbrev pub granules : ℕ → ℕ
granules rows = div_ceil rows GRANULE

-- the entry of a granule: the id and the number of its first row
abbrev pub first_of : List ℤ → ℕ → ℤ × ℕ
first_of ids granule = (get_or ids (granule * GRANULE) (pos 0), granule * GRANULE)

-- The entries of the first `many` granules.
pub record AreFirsts (ids : List ℤ) (many : ℕ) (entries : List (ℤ × ℕ)) : Type 0 where
  pub all : length entries ≡ many
  pub each : (k : ℕ) (d : ℤ × ℕ) → k < many → get_or entries k d ≡ first_of ids k

-- these are the entries of all granules
abbrev pub IsSparse : List ℤ → List (ℤ × ℕ) → Type 0
IsSparse ids entries = AreFirsts ids (granules (length ids)) entries

-- The granule that begins at this row is the only one that may have the id: the ids before it are lower, and those
-- after it are higher.
pub record IsGranuleFor (ids : List ℤ) (id : ℤ) (first : ℕ) : Type 0 where
  pub there : first < length ids
  pub before : (i : ℕ) (d : ℤ) → i < first → get_or ids i d <ℤ id
  pub behind : (i : ℕ) (d : ℤ) → first + GRANULE ≤ i → i < length ids → id <ℤ get_or ids i d

-- There is a row with this number, and it has the id.
pub record IsRowWith (ids : List ℤ) (id : ℤ) (row : ℕ) : Type 0 where
  pub there : row < length ids
  pub has : get_or ids row (pos 0) ≡ id
