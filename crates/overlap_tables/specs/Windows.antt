-- The wedges that can be near a point: those between two sides that it is far from, and those opposite to them.
use Rattle.std.specs.Prelude.{◌≡◌, ℕ, ◌+◌, ◌-◌, ◌*◌, ◌≤◌, ◌<◌, false, if◌then◌else◌, nat_lt}
use Rattle.sky_vector.specs.Points.{Point}
use Rattle.wedge_rules.specs.Heading.{heading}
use Rattle.wedge_rules.specs.Wedge.{InWedge}
use Rattle.sky_rules.specs.Bounds.{near_side, near_sides, sides_of}

-- the side that is the given number of steps back from the first side of wedge k, round the n sides
abbrev pub side_back : ℕ → ℕ → ℕ → ℕ
side_back n k steps = if nat_lt k steps then k + n - steps else k - steps

-- the side that is the given number of steps on from the second side of wedge k
abbrev pub side_on : ℕ → ℕ → ℕ → ℕ
side_on n k steps = if nat_lt n (k + 1 + steps) then k + 1 + steps - n else k + 1 + steps

-- Of n sides, side b is less than half a turn on from side a: the arc there may lead past the last side, to the first.
pub data IsNarrow (n a b : ℕ) : Type 0 where
  straight : a < b → 2 * b < 2 * a + n → IsNarrow n a b
  round : 2 * b + n < 2 * a → IsNarrow n a b

-- Wedge k is in that arc.
pub data IsBetween (n a b k : ℕ) : Type 0 where
  inside : a ≤ k → k < b → IsBetween n a b k
  behind_first : 2 * b + n < 2 * a → a ≤ k → IsBetween n a b k
  before_second : 2 * b + n < 2 * a → k < b → IsBetween n a b k

-- Of n wedges, those from side a to side b take less than half a turn, one of them contains the point, and the point is
-- farther than r from both sides.
pub record IsWindow (n r a b : ℕ) (p : Point) : Type 0 where
  pub first_there : a < n
  pub second_there : b ≤ n
  pub narrow : IsNarrow n a b
  pub first_far : near_side r (heading n a) p ≡ false
  pub second_far : near_side r (heading n b) p ≡ false
  pub own : (k : ℕ) × (k < n) × IsBetween n a b k × InWedge n k p.x p.y

-- Wedge k is in none of three runs of wedges, each from its first number up to but not including its last.
pub data IsLeftOut (a b c d e f k : ℕ) : Type 0 where
  below : k < a → IsLeftOut a b c d e f k
  then : b ≤ k → k < c → IsLeftOut a b c d e f k
  later : d ≤ k → k < e → IsLeftOut a b c d e f k
  above : f ≤ k → IsLeftOut a b c d e f k

-- Three runs of n wedges follow each other.
pub record InARow (n a b c d e f : ℕ) : Type 0 where
  pub first : a ≤ b
  pub second : b ≤ c
  pub third : c ≤ d
  pub fourth : d ≤ e
  pub fifth : e ≤ f
  pub last : f ≤ n

-- Three runs of n wedges follow each other, and outside of them no wedge has the point between its sides or within r of
-- one of them.
pub record AreCandidates (n r : ℕ) (p : Point) (a b c d e f : ℕ) : Type 0 where
  pub row : InARow n a b c d e f
  pub others : (k : ℕ) → k < n → IsLeftOut a b c d e f k → near_sides r (sides_of n k) p ≡ false

-- Wedge k of n is outside of the arc from side a to side b. It is also outside of the arc opposite to that, or takes up
-- all of it.
pub data IsGap (n a b k : ℕ) : Type 0 where
  gap_below_opposite : a < b → 2 * (k + 1) + n ≤ 2 * a → IsGap n a b k
  gap_before : a < b → k + 1 ≤ a → 2 * b ≤ 2 * k + n → IsGap n a b k
  gap_after : a < b → b ≤ k → 2 * (k + 1) ≤ 2 * a + n → IsGap n a b k
  gap_above_opposite : a < b → 2 * b + n ≤ 2 * k → IsGap n a b k
  gap_whole_opposite_back : a < b → k + 1 ≤ a → 2 * k + n ≤ 2 * a → 2 * b ≤ 2 * (k + 1) + n → IsGap n a b k
  gap_whole_opposite_on : a < b → b ≤ k → 2 * k ≤ 2 * a + n → 2 * b + n ≤ 2 * (k + 1) → IsGap n a b k
  gap_round_after : 2 * b + n < 2 * a → b ≤ k → 2 * (k + 1) + n ≤ 2 * a → IsGap n a b k
  gap_round_before : 2 * b + n < 2 * a → 2 * b + n ≤ 2 * k → k + 1 ≤ a → IsGap n a b k

-- Three runs of n wedges follow each other, and leave out only wedges outside of the arc from side i to side j that are
-- also outside of the arc opposite to it, or take up all of that.
pub record CoverWay (n i j a b c d e f : ℕ) : Type 0 where
  pub row : InARow n a b c d e f
  pub gaps : (k : ℕ) → k < n → IsLeftOut a b c d e f k → IsGap n i j k
