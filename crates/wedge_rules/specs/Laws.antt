-- Lemmas about the wedges of a stripe, and about the fine wedges into which its chunks are cut again.
use Rattle.std.specs.Prelude.{◌≡◌, ◌↔◌, IsTrue, ℕ, ℤ, pos, ◌+◌, ◌*◌, ◌<◌, ◌≤◌, ◌<ℤ◌}
use Rattle.wedge_rules.specs.Heading.{heading, past, scaled}
use Rattle.wedge_rules.specs.Wedge.{IsWedgeCount, InWedge, in_wedge}

-- each point is in exactly one of the n wedges
abbrev pub ExactlyOneWedge : Type 0
ExactlyOneWedge =
    (n : ℕ) (x y : ℤ) → IsWedgeCount n
    → (k : ℕ) × (k < n) × InWedge n k x y × ((j : ℕ) → j < n → InWedge n j x y → j ≡ k)

-- if c wedges are cut into m fine wedges each, a fine wedge of a wedge is a subset of that wedge
abbrev pub FineLiesInItsWedge : Type 0
FineLiesInItsWedge =
    (c m w j : ℕ) (x y : ℤ) → IsWedgeCount c → w < c → j < m
    → InWedge (c * m) (w * m + j) x y → InWedge c w x y

-- each point is in one wedge, in exactly one fine wedge of it, and in no fine wedge of another
abbrev pub ExactlyOneFineWedge : Type 0
ExactlyOneFineWedge =
    (c m : ℕ) (x y : ℤ) → IsWedgeCount c → 0 < m → IsWedgeCount (c * m)
    → (w : ℕ) × (j : ℕ) × (w < c) × (j < m) × InWedge c w x y × InWedge (c * m) (w * m + j) x y
    × ((v i : ℕ) → v < c → i < m → InWedge (c * m) (v * m + i) x y → (v ≡ w) × (i ≡ j))

-- the direction of the fine wedge at which a wedge begins is the wedge's own, m times as long
abbrev pub PlanesAgree : Type 0
PlanesAgree = (c m w : ℕ) → 0 < m → heading (c * m) (w * m) ≡ scaled m (heading c w)

-- neighbouring directions are less than half a turn apart
abbrev pub LessThanHalfATurn : Type 0
LessThanHalfATurn =
    (n k : ℕ) → 3 ≤ n → k < n
    → pos 0 <ℤ past (heading n k) (heading n (k + 1)).dx (heading n (k + 1)).dy

-- the test is true exactly if the wedge holds the point
abbrev pub TestIsTheFact : Type 0
TestIsTheFact =
    (n k : ℕ) (x y : ℤ) → IsWedgeCount n → IsTrue (in_wedge n k x y) ↔ InWedge n k x y
