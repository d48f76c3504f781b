-- The first two objects of the demo with seed 1, worked out by hand.
use Rattle.std.specs.Prelude.{pos, negsuc, [], ◌∷◌, Some}
use Rattle.sky_vector.specs.Points.{Point}
use Rattle.table_rules.specs.Objects.{Obj}

-- the position of the first object
abbrev pub first_point : Point
first_point = record { x = negsuc 4945113; y = pos 1207805; z = negsuc 268387184 }

-- the first object
abbrev pub first_object : Obj
first_object = record { id = pos 1; at = first_point; further = Some (pos 20637) ∷ Some (pos 1) ∷ [] }

-- the position of the second object of seed 1
abbrev pub second_point : Point
second_point = record { x = pos 33368878; y = negsuc 227255983; z = pos 138920227 }

-- the second object of seed 1
abbrev pub second_object : Obj
second_object = record { id = pos 2; at = second_point; further = Some (pos 86691) ∷ Some (pos 7) ∷ [] }
