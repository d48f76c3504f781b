-- Rows, expressions and conditions of worked examples.
use Rattle.std.specs.Prelude.{ℕ, ℤ, pos, negsuc, true, false, List, [], ◌∷◌, map, Option, None, Some}
use Rattle.std.specs.List.{filter}
use Rattle.table_rules.specs.Objects.{Obj}
use Rattle.sky_vector.specs.declared.direction.Dir.{Dir}
use Rattle.sky_vector.specs.declared.position.Pos.{Pos}
use Rattle.sql_bound.specs.Trees.{just, factor, product, signed, sum, cond_of, either}
use Rattle.sql_bound.specs.declared.area.AreaTest.{AreaTest}
use Rattle.sql_bound.specs.declared.area.AreaTest.TheVariants.{Boxed}
use Rattle.sql_bound.specs.declared.cond.BoundCond.{BoundCond}
use Rattle.sql_bound.specs.declared.cond.BoundPred.TheVariants as pred
use Rattle.sql_tree.specs.declared.cond.Cmp.TheVariants.{Equal, More}
use Rattle.sql_bound.specs.declared.expr.BoundAtom.{BoundAtom}
use Rattle.sql_bound.specs.declared.expr.BoundAtom.TheVariants as atom
use Rattle.sql_bound.specs.declared.expr.BoundExpr.{BoundExpr}
use Rattle.value_rules.specs.Areas.{area_holds}
use Rattle.value_rules.specs.Truth.{meets}
use Rattle.value_rules.specs.Values.{Pick, row}

-- a row of one extra column
abbrev pub object : ℤ → ℤ → ℤ → ℤ → Option ℤ → Obj
object id x y z flux = record { id = id; at = record { x = x; y = y; z = z }; further = flux ∷ [] }

-- six rows, of which the second and the fourth have no flux
abbrev pub some_without_flux : List Obj
some_without_flux =
    object (pos 1) (pos 268435456) (pos 0) (pos 0) (Some (pos 10))
    ∷ object (pos 2) (pos 268435456) (pos 3) (pos 0) None
    ∷ object (pos 3) (pos 268435456) (pos 0) (pos 4) (Some (pos 30))
    ∷ object (pos 4) (pos 268435456) (negsuc 2) (pos 0) None
    ∷ object (pos 5) (pos 268435456) (pos 0) (negsuc 0) (Some (negsuc 4))
    ∷ object (pos 6) (pos 0) (pos 0) (pos 268435456) (Some (pos 60))
    ∷ []

-- a column of the first row
abbrev pub column : ℕ → BoundAtom
column k = atom.Col (record { second = false; col = k })

-- the id
abbrev pub id : BoundExpr
id = just (column 0)

-- the flux
abbrev pub flux : BoundExpr
flux = just (column 4)

-- a number
abbrev pub number : ℕ → BoundExpr
number n = just (atom.Int (pos n))

-- NOT flux>20 OR objectId=2
abbrev pub faint_or_second : BoundCond
faint_or_second =
    either (cond_of true (pred.Compare flux More (number 20))) (cond_of false (pred.Compare id Equal (number 2)))

-- flux IS NULL
abbrev pub no_flux : BoundCond
no_flux = cond_of false (pred.IsNull false flux)

-- the ids of the rows that meet the condition
abbrev pub ids_that_meet : BoundCond → List Obj → List ℤ
ids_that_meet c table = map (λ o. o.id) (filter (λ o. meets (c ∷ []) (row o)) table)

-- the position of the equator on the first meridian
abbrev pub on_meridian : Pos
on_meridian = record {
  x = pos 268435456;
  y = pos 0;
  z = pos 0;
  x_within = (record { le = tt }, record { le = tt });
  y_within = (record { le = tt }, record { le = tt });
  z_within = (record { le = tt }, record { le = tt });
}

-- the direction of the first meridian
abbrev pub east : Dir
east = record {
  dx = pos 1;
  dy = pos 0;
  dx_within = (record { le = tt }, record { le = tt });
  dy_within = (record { le = tt }, record { le = tt });
}

-- the direction a quarter turn to its left
abbrev pub north : Dir
north = record {
  dx = pos 0;
  dy = pos 1;
  dx_within = (record { le = tt }, record { le = tt });
  dy_within = (record { le = tt }, record { le = tt });
}

-- the ids of the six rows that are in the area
abbrev pub ids_in : AreaTest → List ℤ
ids_in area = map (λ o. o.id) (filter (λ o. area_holds area o.at) some_without_flux)

-- the row with the id 2, which has no flux
abbrev pub second : Pick
second = row (object (pos 2) (pos 268435456) (pos 3) (pos 0) None)

-- the row with the id 3, with flux 30
abbrev pub third : Pick
third = row (object (pos 3) (pos 268435456) (pos 0) (pos 4) (Some (pos 30)))

-- flux>20
abbrev pub is_bright : BoundCond
is_bright = cond_of false (pred.Compare flux More (number 20))

-- objectId=2
abbrev pub is_second : BoundCond
is_second = cond_of false (pred.Compare id Equal (number 2))

-- objectId=3
abbrev pub is_third : BoundCond
is_third = cond_of false (pred.Compare id Equal (number 3))

-- the flux times the id, minus 1
abbrev pub flux_times_id : BoundExpr
flux_times_id =
    sum (product (factor false (column 4)) (factor false (column 0) ∷ []))
    (signed true (product (factor false (atom.Int (pos 1))) []) ∷ [])

-- the product of these atoms
abbrev pub product_of : BoundAtom → List BoundAtom → BoundExpr
product_of a rest = sum (product (factor false a) (map (factor false) rest)) []

-- area_box(-10,10,1,0,0,1)
abbrev pub middle_box : AreaTest
middle_box = Boxed (negsuc 9) (pos 10) east north

-- objectId*flux
abbrev pub id_times_flux : BoundExpr
id_times_flux = product_of (column 0) (column 4 ∷ [])

-- a*a*a*0, where a is an extra column
abbrev pub zero_last : BoundExpr
zero_last = product_of (column 4) (column 4 ∷ column 4 ∷ atom.Int (pos 0) ∷ [])

-- 0*a*a*a
abbrev pub zero_first : BoundExpr
zero_first = product_of (atom.Int (pos 0)) (column 4 ∷ column 4 ∷ column 4 ∷ [])
