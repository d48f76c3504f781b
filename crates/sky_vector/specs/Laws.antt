-- Lemmas about the plane and positions.
use Rattle.std.specs.Prelude.{◌≡◌, ℤ, pos, ◌+ℤ◌, ◌*ℤ◌, ◌≤ℤ◌}
use Rattle.sky_vector.specs.Points.{IsAdmissible, IsCoordinate, Point, square, chord_squared}
use Rattle.sky_vector.specs.Plane.{plane_product, length_squared, IsNearLine}

-- the square of a sum of two products is at most the product of the two squared lengths (Cauchy and Schwarz, in the plane)
abbrev pub PlaneLaw : Type 0
PlaneLaw =
    (a b u v : ℤ) → square ((a *ℤ u) +ℤ (b *ℤ v)) ≤ℤ (length_squared a b *ℤ length_squared u v)

-- of three directions a, b and c and a fourth d, the products [a b][c d], [b c][a d] and [c a][b d] sum to 0
abbrev pub ThreeTerms : Type 0
ThreeTerms =
    (ax ay bx by cx cy dx dy : ℤ)
    → (plane_product ax ay bx by *ℤ plane_product cx cy dx dy)
    +ℤ (plane_product bx by cx cy *ℤ plane_product ax ay dx dy)
    +ℤ (plane_product cx cy ax ay *ℤ plane_product bx by dx dy)
    ≡ pos 0

-- of two points on different sides of a line through the centre, each is as near to the line as they are to each other
abbrev pub NearAcross : Type 0
NearAcross =
    (dx dy : ℤ) (p q : Point) (n : ℤ)
    → pos 0 ≤ℤ plane_product dx dy p.x p.y
    → plane_product dx dy q.x q.y ≤ℤ pos 0
    → chord_squared p q ≤ℤ n
    → IsNearLine dx dy p.x p.y n × IsNearLine dx dy q.x q.y n

-- a chord is as long from either end
abbrev pub SameChord : Type 0
SameChord = (p q : Point) → chord_squared p q ≡ chord_squared q p

-- each part of an admissible point is a coordinate
abbrev pub PartsAreCoordinates : Type 0
PartsAreCoordinates = (p : Point) → IsAdmissible p → IsCoordinate p.x × IsCoordinate p.y × IsCoordinate p.z
