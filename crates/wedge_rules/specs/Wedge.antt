-- The points of the plane that a wedge holds.
use Rattle.std.specs.Prelude.{◌≡◌, ℕ, ◌+◌, ◌≤◌, ◌⊎◌, ℤ, pos, Bool, ◌&&◌, nat_eq, int_le, int_lt, if◌then◌else◌}
use Rattle.std.specs.Ordering.{int_eq}
use Rattle.wedge_rules.specs.Heading.{LiesBetween, heading, past}

-- a stripe is cut into one wedge or into three or more: each of two would take half a turn
abbrev pub IsWedgeCount : ℕ → Type 0
IsWedgeCount n = (n ≡ 1) ⊎ (3 ≤ n)

-- wedge k of n holds the point (x, y): a single wedge holds every point; otherwise the axis x = y = 0 is in wedge 0 and
-- in no other, and any other point is between the wedge's two directions
pub data InWedge (n k : ℕ) (x y : ℤ) : Type 0 where
  whole : n ≡ 1 → k ≡ 0 → InWedge n k x y
  axis : 3 ≤ n → x ≡ pos 0 → y ≡ pos 0 → k ≡ 0 → InWedge n k x y
  between : 3 ≤ n → LiesBetween n k x y → InWedge n k x y

-- `InWedge` as a Boolean test
unfoldable pub in_wedge : ℕ → ℕ → ℤ → ℤ → Bool
in_wedge n k x y =
    if nat_eq n 1 then nat_eq k 0
    else if int_eq x (pos 0) && int_eq y (pos 0) then nat_eq k 0
    else int_le (pos 0) (past (heading n k) x y) && int_lt (past (heading n (k + 1)) x y) (pos 0)
