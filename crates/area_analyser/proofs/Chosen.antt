-- Of the filled chunks, those that pass the area tests and have an id of each id test are the plan.
use Rattle.std.proofs.Common.{◌≡◌, ℕ, ℤ, Bool, true, false, ◌&&◌, List, filter, refl, ap, ◌∙◌}
use Rattle.std.specs.List.{list_all}
use Rattle.std.specs.Prelude.{Result, Ok, Err, IfOk}
use Rattle.table_rules.specs.Objects.{Obj}
use Rattle.sky_rules.specs.Partition.{Partition}
use Rattle.sky_rules.specs.Bounds.{bounds_of}
use Rattle.sql_bound.specs.declared.area.AreaTest.{AreaTest}
use Rattle.sql_bound.specs.declared.query.Bound.{Bound}
use Rattle.sky_rules.specs.Chunks.{all_chunks}
use Rattle.chunk_rules.specs.Filled.{filled_chunks, is_filled}
use Rattle.answer_rules.specs.Plans.{area_meets, holds_id, is_needed, plan_of}
use Rattle.area_analyser.proofs.Filters.{filter_same, filter_twice}

-- the chunk passes the query's area tests
abbrev in_areas : Partition → Bound → ℕ → Bool
in_areas g q c = list_all (area_meets (bounds_of g c)) q.areas

-- the chunk holds an id of each of the query's id tests
abbrev has_ids : Partition → List Obj → Bound → ℕ → Bool
has_ids g table q c = list_all (holds_id g table c) q.ids

and_swapped : (a b c : Bool) → ((a && c) && b) ≡ (a && b && c)
and_swapped true true true = refl
and_swapped true true false = refl
and_swapped true false true = refl
and_swapped true false false = refl
and_swapped false b c = refl

-- of the filled chunks, those that pass the id tests, and of these those that pass the area tests
chosen : (g : Partition) (table : List Obj) (q : Bound) → filter (in_areas g q) (filter (has_ids g table q) (filled_chunks g table)) ≡ plan_of g table q
chosen g table q =
    ap (filter (in_areas g q)) (filter_twice (is_filled g table) (has_ids g table q) (all_chunks g))
    ∙ filter_twice (λ c. is_filled g table c && has_ids g table q c) (in_areas g q) (all_chunks g)
    ∙ filter_same (λ c. (is_filled g table c && has_ids g table q c) && in_areas g q c) (is_needed g table q) (all_chunks g)
    (λ c. and_swapped (is_filled g table c) (in_areas g q c) (has_ids g table q c))

-- so it is of what is kept of a list of the filled chunks
pub plan_from : (g : Partition) (table : List Obj) (q : Bound) (filled kept chunks : List ℕ) (areas : List AreaTest) (ids : List (List ℤ))
    → areas ≡ q.areas → ids ≡ q.ids → kept ≡ filter (λ c. list_all (holds_id g table c) ids) filled
    → chunks ≡ filter (λ c. list_all (area_meets (bounds_of g c)) areas) kept → filled ≡ filled_chunks g table → chunks ≡ plan_of g table q
plan_from g table q filled kept chunks areas ids a i k e full =
    e ∙ ap (λ (tests : List AreaTest). filter (λ c. list_all (area_meets (bounds_of g c)) tests) kept) a
    ∙ ap (filter (in_areas g q)) (k ∙ ap (λ (tests : List (List ℤ)). filter (λ c. list_all (holds_id g table c) tests) filled) i ∙ ap (filter (has_ids g table q)) full)
    ∙ chosen g table q

-- what follows from what holds of an answer holds of it
pub if_ok_then : {A E : Type 0} {P Q : A → Type 0} (answer : Result A E) → IfOk answer P → ((a : A) → P a → Q a) → IfOk answer Q
if_ok_then (Ok a) h f = f a h
if_ok_then (Err e) h f = tt
