-- The tests by which a query's chunks are chosen are among its conditions.
use Rattle.std.specs.Prelude.{◌≡◌, true}
use Rattle.std.specs.List.{list_all}
use Rattle.sql_bound.specs.declared.query.Bound.{Bound}
use Rattle.value_rules.specs.Areas.{area_holds}
use Rattle.value_rules.specs.Truth.{meets, is_one_of}
use Rattle.value_rules.specs.Values.{Pick}

-- The area tests and the id tests of a query follow from its conditions: the first row of a row or pair that meets
-- these passes those.
pub record IsTested (q : Bound) : Type 0 where
  pub areas : (p : Pick) → meets q.conds p ≡ true → list_all (λ a. area_holds a p.first.at) q.areas ≡ true
  pub ids : (p : Pick) → meets q.conds p ≡ true → list_all (λ list. is_one_of list p.first.id) q.ids ≡ true
