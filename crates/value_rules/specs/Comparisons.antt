-- Comparisons of worked examples: each of the six at smaller, equal and larger values, and with NULL on a side.
use Rattle.std.specs.Prelude.{ℤ, pos, negsuc, Bool, true, false, List, [], ◌∷◌, map, Option}
use Rattle.sql_bound.specs.Trees.{factor, product, sum, cond_of}
use Rattle.sql_bound.specs.declared.area.AreaTest.{AreaTest}
use Rattle.sql_bound.specs.declared.area.AreaTest.TheVariants.{Boxed}
use Rattle.sql_bound.specs.declared.cond.BoundCond.{BoundCond}
use Rattle.sql_bound.specs.declared.cond.BoundPred.TheVariants as pred
use Rattle.sql_bound.specs.declared.expr.BoundExpr.{BoundExpr}
use Rattle.sql_tree.specs.declared.cond.Cmp.{Cmp}
use Rattle.sql_tree.specs.declared.cond.Cmp.TheVariants.{Equal, Differs, Less, AtMost, More, AtLeast}
use Rattle.sky_vector.specs.declared.direction.Dir.{Dir}
use Rattle.value_rules.specs.Examples.{column, number, flux, second, third, east}
use Rattle.value_rules.specs.Truth.{truth_of}

-- the six comparison operators
abbrev pub six : List Cmp
six = Equal ∷ Differs ∷ Less ∷ AtMost ∷ More ∷ AtLeast ∷ []

-- the truths of 1, 2 and 3 compared with 2
abbrev pub beside_2 : Cmp → List (Option Bool)
beside_2 op = map (λ n. truth_of (cond_of false (pred.Compare (number n) op (number 2))) third) (1 ∷ 2 ∷ 3 ∷ [])

-- the truths of 20 compared with the flux, on a row without flux
abbrev pub beside_null : List (Option Bool)
beside_null = map (λ op. truth_of (cond_of false (pred.Compare (number 20) op flux)) second) six

-- -flux
abbrev pub less_flux : BoundExpr
less_flux = sum (product (factor true (column 4)) []) []

-- flux NOT IN the list
abbrev pub not_among : List ℤ → BoundCond
not_among list = cond_of false (pred.Among true flux list)

-- flux IN the list
abbrev pub among : List ℤ → BoundCond
among list = cond_of false (pred.Among false flux list)

-- the direction of the meridian a quarter turn to the right of the first
abbrev pub south : Dir
south = record {
  dx = pos 0;
  dy = negsuc 0;
  dx_within = (record { le = tt }, record { le = tt });
  dy_within = (record { le = tt }, record { le = tt });
}

-- area_box(-10,10,0,-1,1,0), whose second side is the first meridian
abbrev pub up_to_meridian : AreaTest
up_to_meridian = Boxed (negsuc 9) (pos 10) south east
