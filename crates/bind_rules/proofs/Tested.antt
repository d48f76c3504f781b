-- The chunk tests of what a query is bound to are among its conditions.
use Rattle.std.proofs.Common.{◌≡◌, ℕ, ℤ, Bool, true, false, List, Option, Some, None, refl, subst}
use Rattle.std.specs.List.{AllByRecursion as Each, flat_map}
use Rattle.sql_bound.specs.declared.query.BoundItem.{BoundItem}
use Rattle.sql_bound.specs.declared.query.Shape.{Shape}
use Rattle.sql_tree.specs.declared.cond.Cond.{Cond}
use Rattle.sql_tree.specs.declared.name.Col.{Col}
use Rattle.sql_tree.specs.declared.query.Query.{Query}
use Rattle.value_rules.specs.Areas.{area_holds}
use Rattle.value_rules.specs.Tested.{IsTested}
use Rattle.value_rules.specs.Truth.{is_one_of, holds, meets}
use Rattle.value_rules.specs.Values.{Pick}
use Rattle.bind_rules.specs.Binding.{bound_items, bound_query, bound_shape, query_by}
use Rattle.bind_rules.specs.Bounds.{object_columns, Meaning}
use Rattle.bind_rules.specs.Forms.{values_of}
use Rattle.bind_rules.specs.IdTests.{Alone, LoneCol, LoneInt, areas_by, first_id, ids_by, ids_if, int_of, is_lone_column, lone_of}
use Rattle.bind_rules.specs.Laws.{BoundIsTested}
use Rattle.bind_rules.specs.Tops.{Test, Area, Chord, Equals, Listed, top_tests}
use Rattle.bind_rules.specs.Wholes.{conds_in}
use Rattle.bind_rules.proofs.Each.{weaker, of_parts, passed, all_pass}
use Rattle.bind_rules.proofs.Faultless.{scope_of, binds}
use Rattle.bind_rules.proofs.Tops.{TestPasses, tops_pass}

where_passes : (means : Meaning) (p : Pick) (c : Option Cond) → meets (conds_in means c) p ≡ true → Each (TestPasses means p) (top_tests c)
where_passes means p None h = tt
where_passes means p (Some c) h = tops_pass means p c (passed (λ x. holds x p) (conds_in means (Some c)) h)

-- each of these columns is one of those
abbrev pub AreAmong : (Col → Bool) → (Col → Bool) → Type 0
AreAmong these those = (c : Col) → these c ≡ true → those c ≡ true

among_alone : (these those : Col → Bool) → AreAmong these those → (x : Alone) → is_lone_column these x ≡ true → is_lone_column those x ≡ true
among_alone these those among None h = absurd cc
among_alone these those among (Some (LoneCol c)) h = among c h
among_alone these those among (Some (LoneInt n)) h = absurd cc

fewer_ids : (P : List ℤ → Type 0) (a b : Bool) (ns : List ℤ) → (a ≡ true → b ≡ true) → Each P (ids_if b ns) → Each P (ids_if a ns)
fewer_ids P true b ns h k = subst (λ c. Each P (ids_if c ns)) (h refl) k
fewer_ids P false b ns h k = tt

-- the id tests by fewer columns are among those by more
ids_among : (P : List ℤ → Type 0) (these those : Col → Bool) → AreAmong these those → (t : Test) → Each P (ids_by those t) → Each P (ids_by these t)
ids_among P these those among (Area kind span args) h = tt
ids_among P these those among (Chord left right strict n) h = tt
ids_among P these those among (Equals left right) h =
    fewer_ids P (is_lone_column these (lone_of left)) (is_lone_column those (lone_of left)) (int_of (lone_of right)) (among_alone these those among (lone_of left)) h
ids_among P these those among (Listed value list) h =
    fewer_ids P (is_lone_column these (lone_of value)) (is_lone_column those (lone_of value)) (values_of list) (among_alone these those among (lone_of value)) h

-- a query is tested if each column of its id tests is the id of the first table
pub query_is_tested : (means : Meaning) (id : Col → Bool) → AreAmong id (first_id means) → (q : Query) (kind : Shape) (items : List BoundItem) → IsTested (query_by means id q kind items)
query_is_tested means id among q kind items = record {
  areas = λ p m.
      all_pass (λ a. area_holds a p.first.at) (flat_map areas_by (top_tests q.cond))
      (of_parts (λ a. area_holds a p.first.at ≡ true) areas_by (top_tests q.cond)
      (weaker (TestPasses means p) (λ t. Each (λ a. area_holds a p.first.at ≡ true) (areas_by t))
      (λ t h. passed (λ a. area_holds a p.first.at) (areas_by t) h.0)
      (top_tests q.cond) (where_passes means p q.cond m)));
  ids = λ p m.
      all_pass (λ list. is_one_of list p.first.id) (flat_map (ids_by id) (top_tests q.cond))
      (of_parts (λ list. is_one_of list p.first.id ≡ true) (ids_by id) (top_tests q.cond)
      (weaker (TestPasses means p) (λ t. Each (λ list. is_one_of list p.first.id ≡ true) (ids_by id t))
      (λ t h. ids_among (λ list. is_one_of list p.first.id ≡ true) id (first_id means) among t (passed (λ list. is_one_of list p.first.id) (ids_by (first_id means) t) h.1))
      (top_tests q.cond) (where_passes means p q.cond m)));
}

object_query_is_tested : (names : List (List ℕ)) (q : Query) → IsTested (bound_query (scope_of names q) q)
unfolding bound_query
object_query_is_tested names q =
    query_is_tested (object_columns names q) (first_id (object_columns names q)) (λ c h. h) q (bound_shape (scope_of names q) q) (bound_items (scope_of names q) q q.items)

pub bound_is_tested : BoundIsTested
bound_is_tested names q b h =
    let two = binds names q b h in subst IsTested two.1 (object_query_is_tested names q)
