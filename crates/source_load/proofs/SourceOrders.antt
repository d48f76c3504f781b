-- Sources in the order of their ids.
use Rattle.std.proofs.Common.{◌≡◌, ◌∙◌, sym, refl, ap, subst, ℕ, ◌<◌, arith, List, [], length, map, get_or, ℤ, pos, ◌≤ℤ◌}
use Rattle.std.specs.Prelude.{All}
use Rattle.std.specs.List.{IsDistinct, range_with_len}
use Rattle.std.specs.List.Sorted.{IsPermutation}
use Rattle.std.specs.Ordering.{int_eq}
use Rattle.std.proofs.lemmas.List.{length-map, get_or-map, get_or_default, map-id, same_lists}
use Rattle.std.proofs.lemmas.List.FromFn.{fill_by_all}
use Rattle.std.proofs.lemmas.List.Sorted.{IsPermutation-map}
use Rattle.std.proofs.lemmas.Simd.{map-map}
use Rattle.table_rules.specs.Objects.{Obj}
use Rattle.table_rules.specs.Ordered.{by_id}
use Rattle.table_rules.proofs.Catalogues.{apart_have_a_table}
use Rattle.sky_row.specs.Columns.{AreAscending, ArePlacesById, no_row, objects_at}
use Rattle.sky_row.proofs.Ids.{ascend_as_a_table}
use Rattle.sky_row.proofs.Rowed.{places_within, rows_rise, same_rows}
use Rattle.source_rules.specs.Sources.{Source}
use Rattle.source_row.specs.SourceColumns.{SourceParts, AreSourceColumns, no_source, sources_at, sources_in}
use Rattle.source_row.proofs.Sourced.{sources_count}

-- rows with these ids, and nothing else
abbrev row_with : ℤ → Obj
row_with id = record { id = id; at = record { x = pos 0; y = pos 0; z = pos 0 }; further = [] }

abbrev rows_with : List ℤ → List Obj
rows_with ids = map row_with ids

ids_back : (ids : List ℤ) → ids ≡ map (λ o. o.id) (rows_with ids)
ids_back ids = sym (map-map (λ o. o.id) row_with ids ∙ map-id ids)

-- row numbers by id are numbers of the ids, each once
pub places_there : (ids : List ℤ) (places : List ℕ) → ArePlacesById ids places → All (λ place. place < length ids) places × (length places ≡ length ids)
places_there ids places by =
    let within = places_within (rows_with ids) ids places (ids_back ids) by in
    (λ k d low. omega (arith, within.0 k d low, length-map ids row_with), within.1 ∙ length-map ids row_with)

-- ids no two of which are equal ascend in the order of their row numbers by id
pub ascend_if_apart : (ids : List ℤ) (places : List ℕ) → ArePlacesById ids places → IsDistinct int_eq ids → AreAscending (map (λ place. get_or ids place (pos 0)) places)
ascend_if_apart ids places by apart =
    let rows = rows_with ids in
    let back = ids_back ids in
    let up = ascend_as_a_table rows (objects_at rows places) (by_id rows) (same_rows rows ids places back by) (rows_rise rows ids places back by)
    (apart_have_a_table rows (subst (IsDistinct int_eq) back apart)) in
    subst AreAscending (at_places ids places (places_there ids places by).0) up
  where
    at_places : (ids : List ℤ) (places : List ℕ) → All (λ place. place < length ids) places
        → map (λ o. o.id) (objects_at (rows_with ids) places) ≡ map (λ place. get_or ids place (pos 0)) places
    at_places ids places there =
        map-map (λ o. o.id) (λ place. get_or (rows_with ids) place no_row) places
        ∙ same_lists (map (λ place. (get_or (rows_with ids) place no_row).id) places) (map (λ place. get_or ids place (pos 0)) places)
        (length-map places (λ place. (get_or (rows_with ids) place no_row).id) ∙ sym (length-map places (λ place. get_or ids place (pos 0))))
        (λ k d low.
        let at : k < length places = omega (arith, low, length-map places (λ place. (get_or (rows_with ids) place no_row).id)) in
        get_or-map (λ place. (get_or (rows_with ids) place no_row).id) places k 0 d at
        ∙ (ap (λ o. o.id) (get_or-map row_with ids (get_or places k 0) (pos 0) no_row (there k 0 at))
        ∙ sym (get_or-map (λ place. get_or ids place (pos 0)) places k 0 d at)))

all_sources : (sources : List Source) → sources_at sources (range_with_len 0 (length sources)) ≡ sources
all_sources sources = sym (fill_by_all (λ place. get_or sources place no_source) sources (length sources) no_source refl (λ k low. refl))

-- the sources with these row numbers are the same sources
pub same_sources : (p : SourceParts) (places : List ℕ) → ArePlacesById p.ids places → IsPermutation (sources_in p) (sources_at (sources_in p) places)
same_sources p places by =
    let sources = sources_in p in
    subst (λ l. IsPermutation l (sources_at sources places)) (ap (λ n. sources_at sources (range_with_len 0 n)) (sym (sources_count p)) ∙ all_sources sources)
    (IsPermutation-map (λ place. get_or sources place no_source) (range_with_len 0 (length p.ids)) places by.each)

-- ids of sources are from 0
pub ids_from_0 : (names : List (List ℕ)) (p : SourceParts) → AreSourceColumns names p → All (λ id. pos 0 ≤ℤ id) p.ids
ids_from_0 names p are = λ k d low. subst (λ z. pos 0 ≤ℤ z) (get_or_default p.ids k (pos 0) d low) (are.rows k low).id
