-- Scalar tests of a value, and the masks that they leave.
use Rattle.std.specs.Prelude.{◌≡◌, ℕ, ◌*◌, ◌<◌, ◌≤ℤ◌, ℤ, pos, neg_ℤ, Bool, false, ◌&&◌, List, length, get_or, int_le}
use Rattle.std.specs.List.{filter, range_with_len}
use Rattle.sky_vector.specs.declared.limits.TheConstants.{PART_MOST}
use Rattle.sky_vector.specs.Points.{Point, chord_squared}

-- the value is from the first number to the last
unfoldable pub is_from_to : ℤ → ℤ → ℤ → Bool
is_from_to first last value = int_le first value && int_le value last

-- the position is no farther from the centre than the root of n
unfoldable pub is_near : Point → ℤ → ℤ → ℤ → ℤ → Bool
is_near centre n x y z = int_le (chord_squared (record { x = x; y = y; z = z }) centre) n

-- a mask is left as it was at the rows that pass a test, and cleared elsewhere
abbrev pub IsKeptBy : (ℕ → Bool) → List Bool → List Bool → Type 0
IsKeptBy test old new = (k : ℕ) → k < length old → get_or new k false ≡ (get_or old k false && test k)

-- the row numbers at which a mask is true, ascending
abbrev pub places_of : List Bool → List ℕ
places_of mask = filter (λ k. get_or mask k false) (range_with_len 0 (length mask))

-- a difference of two coordinates is at most 2^30 in size; so is a difference of two components of points
abbrev pub IsGap : ℤ → Type 0
IsGap gap = (neg_ℤ (pos (2 * PART_MOST)) ≤ℤ gap) × (gap ≤ℤ pos (2 * PART_MOST))

-- the square of such a difference is from 0 to 2^60
abbrev pub IsSquare : ℤ → Type 0
IsSquare square = (pos 0 ≤ℤ square) × (square ≤ℤ pos (2 * PART_MOST * (2 * PART_MOST)))
