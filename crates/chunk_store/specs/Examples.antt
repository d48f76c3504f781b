-- A survey of worked examples: six rows, and a sky of eight chunks.
use Rattle.std.specs.Prelude.{ℤ, pos, negsuc, List, [], ◌∷◌, codes, Some}
use Rattle.table_rules.specs.Objects.{Obj, Catalogue}
use Rattle.sky_rules.specs.Partition.{Partition}
use Rattle.sky_rules.specs.Examples.{north, south}

-- a row without extra values
abbrev pub row : ℤ → ℤ → ℤ → ℤ → Obj
row id x y z = record { id = id; at = record { x = x; y = y; z = z }; further = [] }

-- four rows where the equator meets the first meridian, one below it, and one at the pole
abbrev pub six_rows : List Obj
six_rows =
    row (pos 1) (pos 268435456) (pos 0) (pos 0) ∷ row (pos 2) (pos 268435456) (pos 3) (pos 0)
    ∷ row (pos 3) (pos 268435456) (pos 0) (pos 4) ∷ row (pos 4) (pos 268435456) (negsuc 2) (pos 0)
    ∷ row (pos 5) (pos 268435456) (pos 0) (negsuc 0) ∷ row (pos 6) (pos 0) (pos 0) (pos 268435456) ∷ []

-- the sky of eight chunks with the overlaps 5 in the south and 2 in the north
abbrev pub two_overlaps : Partition
two_overlaps = record { stripes = south 5 ∷ north 2 ∷ [] }

-- a row with a flux
abbrev pub lit : ℤ → ℤ → ℤ → ℤ → ℤ → Obj
lit id x y z flux = record { id = id; at = record { x = x; y = y; z = z }; further = Some flux ∷ [] }

-- the six rows, each with a flux of ten times its id
abbrev pub six_lit : Catalogue
six_lit = record {
  names = codes "flux" ∷ [];
  objects =
      lit (pos 1) (pos 268435456) (pos 0) (pos 0) (pos 10) ∷ lit (pos 2) (pos 268435456) (pos 3) (pos 0) (pos 20)
      ∷ lit (pos 3) (pos 268435456) (pos 0) (pos 4) (pos 30) ∷ lit (pos 4) (pos 268435456) (negsuc 2) (pos 0) (pos 40)
      ∷ lit (pos 5) (pos 268435456) (pos 0) (negsuc 0) (pos 50) ∷ lit (pos 6) (pos 0) (pos 0) (pos 268435456) (pos 60) ∷ [];
}
