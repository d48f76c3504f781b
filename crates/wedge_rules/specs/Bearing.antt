-- The number of the wedge that a point is in, by one division.
use Rattle.std.specs.Prelude.{ℕ, ◌+◌, ◌-◌, ◌*◌, ◌/◌, ◌<◌, ℤ, ◌+ℤ◌, nat_abs, nat_lt, if◌then◌else◌}
use Rattle.wedge_rules.specs.Heading.{LiesBetween}

-- steps from the lower corner of the right side, as steps from its middle
unfoldable pub from_middle : ℕ → ℕ → ℕ
from_middle n steps = if nat_lt steps n then steps + 7 * n else steps - n

-- the wedge of a point, given how far ahead and to the side it is after a rotation to the right side, and the steps of
-- that rotation
unfoldable pub wedge_at : ℕ → ℤ → ℤ → ℕ → ℕ
wedge_at n ahead side turned = from_middle n (n * nat_abs (side +ℤ ahead) / nat_abs ahead + turned) / 8

-- wedge k exists, and the point is between its directions
pub record IsBearing (n k : ℕ) (x y : ℤ) : Type 0 where
  pub inside : k < n
  pub between : LiesBetween n k x y
