-- Which chunks hold a row.
use Rattle.std.proofs.Common.{◌≡◌, ℕ, ◌+◌, ◌≤◌, Bool, true, false, ◌||◌, List, [], ◌∷◌, ◌++◌, filter}
use Rattle.std.proofs.Common.{refl, ap, sym, ◌∙◌, arith, suc, zero, length, take, get_or, slice_get}
use Rattle.std.specs.List.{range_with_len, list_any}
use Rattle.std.proofs.lemmas.List.{take_all}
use Rattle.std.proofs.lemmas.List.Folds.{list_any_more}
use Rattle.std.proofs.lemmas.Option.{slice_get-get_or}
use Rattle.table_rules.specs.Objects.{Obj}
use Rattle.sky_rules.specs.Partition.{Partition, chunk_count}
use Rattle.chunk_rules.specs.Filled.{filled_chunks, is_filled}
use Rattle.chunk_rules.specs.Places.{passes, places_by}
use Rattle.chunk_store.specs.Lists.{has_some, kept_if, places_below, AreLists, own_test}
use Rattle.chunk_store.proofs.Ranges.{filter_more, same_filter}

some_more : (l : List ℕ) (b : Bool) (n : ℕ) → has_some (l ++ kept_if b n) ≡ (has_some l || b)
some_more [] true n = refl
some_more [] false n = refl
some_more (x ∷ l) b n = refl

-- some place below n is there where one of the first n objects passes
some_below : (test : Obj → Bool) (objects : List Obj) (n : ℕ) → n ≤ length objects → has_some (places_below n test objects) ≡ list_any test (take n objects)
some_below test [] zero le = refl
some_below test (o ∷ objects) zero le = refl
some_below test [] (suc n) le = absurd (omega arith)
some_below test (o ∷ objects) (suc n) le =
    let all = o ∷ objects in
    let next : n + 1 ≡ suc n = omega arith in
    ap (λ k. has_some (places_below k test all)) (sym next)
    ∙ (ap has_some (filter_more (λ i. passes test (slice_get all i)) n)
    ∙ (some_more (places_below n test all) (passes test (slice_get all n)) n
    ∙ (ap (λ b. b || passes test (slice_get all n)) (some_below test all n (omega arith))
    ∙ (ap (λ x. list_any test (take n all) || passes test x) (slice_get-get_or all n o (omega arith))
    ∙ (sym (list_any_more test all n o (omega arith)) ∙ ap (λ k. list_any test (take k all)) next)))))

-- a place is there where an object passes
pub some_place : (test : Obj → Bool) (objects : List Obj) → has_some (places_by test objects) ≡ list_any test objects
some_place test objects = some_below test objects (length objects) (omega arith) ∙ ap (list_any test) (take_all (length objects) objects (omega arith))

-- the chunks whose list has a place are those that hold a row
pub filled_of : (g : Partition) (objects : List Obj) (lists : List (List ℕ)) (kept : List ℕ)
    → AreLists (own_test g) (chunk_count g) objects (length objects) lists
    → kept ≡ filter (λ c. has_some (get_or lists c [])) (range_with_len 0 (length lists))
    → kept ≡ filled_chunks g objects
filled_of g objects lists kept are is =
    is ∙ (ap (λ n. filter (λ c. has_some (get_or lists c [])) (range_with_len 0 n)) are.all
    ∙ same_filter (λ c. has_some (get_or lists c [])) (λ c. is_filled g objects c) 0 (chunk_count g)
    (λ c low high. ap has_some (are.each c (omega (arith, high))) ∙ some_place (own_test g c) objects))
