-- The walk over a chunk's subchunks, over the lists of rows that a store gives.
use Rattle.std.proofs.Common.{◌≡◌, ℕ, ℤ, Bool, true, false, not, ◌&&◌, ◌||◌, List, [], ◌∷◌, ◌++◌, map, filter, option_to_list, slice_get, refl, sym, ap, subst, ◌∙◌, IsPermutation}
use Rattle.std.specs.List.{flat_map, range_with_len}
use Rattle.std.proofs.lemmas.List.{map-id}
use Rattle.std.proofs.lemmas.List.Concat.{flat_map-append, flat_map_single}
use Rattle.std.proofs.lemmas.List.Sorted.{IsPermutation-sym, IsPermutation-trans, IsPermutation-map}
use Rattle.table_rules.specs.Objects.{Obj}
use Rattle.sky_rules.specs.Partition.{Partition, sub_count}
use Rattle.sky_rules.specs.Bounds.{in_chunk, in_sub, near_sub}
use Rattle.value_rules.specs.Values.{Pick, pair}
use Rattle.answer_rules.specs.Picks.{found, near_pairs}
use Rattle.answer_rules.proofs.Covering.{found_in_one}
use Rattle.chunk_rules.specs.Places.{rows_at}
use Rattle.chunk_rules.proofs.RowsTaken.{rows_at_places}
use Rattle.sql_bound.specs.declared.query.Shape.TheVariants.{Pairs}
use Rattle.overlap_tables.specs.Overlaps.{in_full_overlap}
use Rattle.chunk_store.specs.Places.{in_sub_overlap, sub_rows, sub_overlap_rows}
use Rattle.near_join.specs.Laws.{PairsOfSubs, pairs_with, rows_in_reach}
use Rattle.near_join.specs.Walk.{is_near, joins, pairs_of, sub_objects, reach_objects, sub_pairs}
use Rattle.near_join.proofs.Filters.{each_of_all, filter_same}
use Rattle.near_join.proofs.Parting.{both_filters}
use Rattle.near_join.proofs.Shuffles.{each_block, filter-permutation}
use Rattle.near_join.proofs.Walking.{walk_finds_all}

single : {X : Type 0} (xs : List X) → flat_map (λ x. x ∷ []) xs ≡ xs
single xs = flat_map_single (λ x. x) xs ∙ map-id xs

apart_by : (inside other near : Bool) → inside ≡ true → (other && (near && not inside)) ≡ false
apart_by true true true h = refl
apart_by true true false h = refl
apart_by true false near h = refl
apart_by false other near h = absurd (cc)

-- what passes one of two tests that no element passes both of, the one kind before the other
pub two_kinds : {X : Type 0} (p q : X → Bool) (xs : List X) → ((x : X) → p x ≡ true → q x ≡ false)
    → IsPermutation (filter p xs ++ filter q xs) (filter (λ x. p x || q x) xs)
two_kinds {X} p q xs apart =
    let f : X → List X = λ x. x ∷ [] in
    let both = both_filters f p q xs (each_of_all (λ x. p x ≡ true → q x ≡ false) apart xs) in
    let whole : filter p xs ++ filter q xs ≡ flat_map f (filter p xs) ++ flat_map f (filter q xs) =
    sym (ap (λ l. l ++ flat_map f (filter q xs)) (single (filter p xs)) ∙ ap (λ l. filter p xs ++ l) (single (filter q xs))) in
    subst (λ l. IsPermutation l (filter (λ x. p x || q x) xs)) (sym whole)
    (subst (IsPermutation (flat_map f (filter p xs) ++ flat_map f (filter q xs))) (single (filter (λ x. p x || q x) xs)) both)

-- the rows of a subchunk and of its overlap, by their places
pub reach_is_listed : (g : Partition) (table : List Obj) (c s : ℕ) → IsPermutation (reach_objects g table c s) (rows_in_reach g table c s)
reach_is_listed g table c s =
    let held : Obj → Bool = λ o. in_sub g c s o.at in
    let overlap : Obj → Bool = λ o. in_sub_overlap g c s o.at in
    let parts : rows_in_reach g table c s ≡ filter held table ++ filter overlap table =
    flat_map-append (λ i. option_to_list (slice_get table i)) (sub_rows g table c s) (sub_overlap_rows g table c s)
    ∙ ap (λ l. l ++ rows_at table (sub_overlap_rows g table c s)) (rows_at_places held table)
    ∙ ap (λ l. filter held table ++ l) (rows_at_places overlap table) in
    IsPermutation-sym _ _ (subst (λ l. IsPermutation l (reach_objects g table c s)) (sym parts)
    (two_kinds held overlap table (λ o h. apart_by (in_sub g c s o.at) (in_chunk g c o.at || in_full_overlap g c o.at) (near_sub g c s o.at) h)))

and_true : (a : Bool) → (a && true) ≡ a
and_true true = refl
and_true false = refl

-- without conditions near rows are pairs
near_alone : (limit : ℤ) (others : List Obj) (u : Obj) → pairs_of (joins limit []) others u ≡ pairs_with limit others u
near_alone limit others u =
    ap (map (pair u)) (filter_same (joins limit [] u) (is_near limit u) others
    (each_of_all (λ v. joins limit [] u v ≡ is_near limit u v) (λ v. and_true (is_near limit u v)) others))

-- the pairs of a row with others, whatever their order
pairs_moved : (limit : ℤ) (others moved : List Obj) (u : Obj) → IsPermutation others moved → IsPermutation (pairs_of (joins limit []) others u) (pairs_with limit moved u)
pairs_moved limit others moved u p =
    subst (λ l. IsPermutation l (pairs_with limit moved u)) (sym (near_alone limit others u))
    (IsPermutation-map (pair u) _ _ (filter-permutation (is_near limit u) others moved p))

-- the pairs of a subchunk, over lists
sub_listed : (g : Partition) (table : List Obj) (c : ℕ) (limit : ℤ) (s : ℕ)
    → IsPermutation (sub_pairs g table (joins limit []) c s) (flat_map (pairs_with limit (rows_in_reach g table c s)) (rows_at table (sub_rows g table c s)))
sub_listed g table c limit s =
    subst (λ l. IsPermutation (sub_pairs g table (joins limit []) c s) (flat_map (pairs_with limit (rows_in_reach g table c s)) l)) (sym (rows_at_places (λ o. in_sub g c s o.at) table))
    (each_block (pairs_of (joins limit []) (reach_objects g table c s)) (pairs_with limit (rows_in_reach g table c s))
    (λ u. pairs_moved limit (reach_objects g table c s) (rows_in_reach g table c s) u (reach_is_listed g table c s)) (sub_objects g table c s))

-- the pairs of a subchunk, as a store's lists give them
abbrev listed_pairs : Partition → List Obj → ℤ → ℕ → ℕ → List Pick
listed_pairs g table limit c s = flat_map (pairs_with limit (rows_in_reach g table c s)) (rows_at table (sub_rows g table c s))

pub pairs_of_subs : PairsOfSubs
pairs_of_subs g table c limit sky at there within =
    let walk = walk_finds_all g table limit [] c sky at there within in
    let all : found g table (Pairs limit) [] (c ∷ []) ≡ filter (λ p. in_chunk g c p.first.at) (near_pairs limit table) = found_in_one g table (Pairs limit) [] c sky at there in
    let subs : List ℕ = range_with_len 0 (sub_count g c) in
    let each = each_block (sub_pairs g table (joins limit []) c) (listed_pairs g table limit c) (sub_listed g table c limit) subs in
    subst (λ l. IsPermutation l (flat_map (listed_pairs g table limit c) subs)) all (IsPermutation-trans _ _ _ walk each)
