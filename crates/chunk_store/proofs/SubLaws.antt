-- Rows of subchunks, over lists of places.
use Rattle.std.proofs.Common.{◌≡◌, ℕ, ◌<◌, Bool, true, false, not, ◌&&◌, ◌||◌, List, length, slice_get, Option, Some, None, refl, sym, ap, subst, ◌∙◌, ◌⊎◌, inl, inr}
use Rattle.std.specs.Prelude.{All}
use Rattle.std.specs.List.{Contains, range_with_len}
use Rattle.std.proofs.lemmas.Bool.{and_from}
use Rattle.std.proofs.lemmas.List.Elements.{All-contains, filter_passes}
use Rattle.std.proofs.lemmas.Option.{slice_get_within, get_or_from_slice_get, same_Some}
use Rattle.sky_vector.specs.Points.{IsAdmissible}
use Rattle.table_rules.specs.Objects.{Obj}
use Rattle.sky_rules.specs.Partition.{Partition, sub_count}
use Rattle.sky_rules.specs.Bounds.{in_chunk, in_sub, near_sub}
use Rattle.sky_rules.proofs.OnlyPlace.{exactly_one_place, sub_lies_in_its_chunk}
use Rattle.overlap_tables.specs.Overlaps.{in_full_overlap}
use Rattle.sky_rules.proofs.Ranges.{listed}
use Rattle.overlap_tables.proofs.Listed.{overlap_is_enough}
use Rattle.chunk_rules.specs.Places.{passes, places_by}
use Rattle.chunk_store.specs.Places.{in_sub_overlap, sub_rows, sub_overlap_rows}
use Rattle.chunk_store.specs.Laws.{EachRowInOneSub, SubRowsAreTheChunks, NearRowsAreThere}

-- the place of an object that passes is one of the places
pub place_listed : (test : Obj → Bool) (objects : List Obj) (i : ℕ) (o : Obj) → slice_get objects i ≡ Some o → test o ≡ true → Contains (places_by test objects) i
place_listed test objects i o at ok =
    listed (λ k. passes test (slice_get objects k)) i (length objects) (slice_get_within objects i o at) (ap (passes test) at ∙ ok)

-- the object at a place that passes
record PassesAt (test : Obj → Bool) (objects : List Obj) (i : ℕ) : Type 0 where
  object : Obj
  at : slice_get objects i ≡ Some object
  ok : test object ≡ true

passes_by : (test : Obj → Bool) (objects : List Obj) (i : ℕ) (o : Option Obj) → slice_get objects i ≡ o → passes test o ≡ true → PassesAt test objects i
passes_by test objects i None e h = absurd (cc)
passes_by test objects i (Some o) e h = record { object = o; at = e; ok = h }

-- each of the places has one
place_passes : (test : Obj → Bool) (objects : List Obj) (i : ℕ) → Contains (places_by test objects) i → PassesAt test objects i
place_passes test objects i has =
    passes_by test objects i (slice_get objects i) refl
    (All-contains (λ k. passes test (slice_get objects k) ≡ true) (places_by test objects) i
    (filter_passes (λ k. passes test (slice_get objects k)) (range_with_len 0 (length objects))) has)

-- that object passes, where it is known
pub known_passes : (test : Obj → Bool) (objects : List Obj) (i : ℕ) (o : Obj) → slice_get objects i ≡ Some o → Contains (places_by test objects) i → test o ≡ true
known_passes test objects i o at has =
    let found = place_passes test objects i has in
    subst (λ p. test p ≡ true) (same_Some found.object o (sym found.at ∙ at)) found.ok

admissible_at : (objects : List Obj) (i : ℕ) (o : Obj) → All (λ p. IsAdmissible p.at) objects → slice_get objects i ≡ Some o → IsAdmissible o.at
admissible_at objects i o all at =
    subst (λ p. IsAdmissible p.at) (get_or_from_slice_get objects i o o at) (all i o (slice_get_within objects i o at))

-- each row of a chunk is a row of exactly one of its subchunks
pub each_row_in_one_sub : EachRowInOneSub
each_row_in_one_sub g objects c place sky admissible hc has =
    let found = place_passes (λ o. in_chunk g c o.at) objects place has in
    let o = found.object in
    let only = exactly_one_place g o.at sky (admissible_at objects place o admissible found.at) in
    let d = only.0 in
    let s = only.1.0 in
    let is = only.1.1 in
    let same : c ≡ d = is.no_other_chunk c hc found.ok in (
      s,
      record {
        there = subst (λ k. s < sub_count g k) (sym same) is.sub_there;
        has = place_listed (λ p. in_sub g c s p.at) objects place o found.at (subst (λ k. in_sub g k s o.at ≡ true) (sym same) is.in_its_sub);
        only = λ t ht other. (is.no_other_sub c t hc ht (known_passes (λ p. in_sub g c t p.at) objects place o found.at other)).1;
      },
    )

-- the rows of a subchunk are rows of its chunk
pub sub_rows_are_the_chunks : SubRowsAreTheChunks
sub_rows_are_the_chunks g objects c s place sky hc hs has =
    let found = place_passes (λ o. in_sub g c s o.at) objects place has in
    place_listed (λ o. in_chunk g c o.at) objects place found.object found.at (sub_lies_in_its_chunk g c s found.object.at sky hc hs found.ok)

-- a near row by whether the subchunk holds it
near_by : (g : Partition) (objects : List Obj) (c s j : ℕ) (v : Obj) (b : Bool) → in_sub g c s v.at ≡ b → slice_get objects j ≡ Some v
    → near_sub g c s v.at ≡ true → (in_chunk g c v.at || in_full_overlap g c v.at) ≡ true
    → Contains (sub_rows g objects c s) j ⊎ Contains (sub_overlap_rows g objects c s) j
near_by g objects c s j v true e at near held = inl (place_listed (λ o. in_sub g c s o.at) objects j v at e)
near_by g objects c s j v false e at near held =
    inr (place_listed (λ o. in_sub_overlap g c s o.at) objects j v at
    (and_from (in_chunk g c v.at || in_full_overlap g c v.at) (near_sub g c s v.at && not (in_sub g c s v.at)) held
    (and_from (near_sub g c s v.at) (not (in_sub g c s v.at)) near (ap not e))))

-- near rows are rows of the subchunk or of its overlap
pub near_rows_are_there : NearRowsAreThere
near_rows_are_there g objects c s i j u v sky hc hs at_i at_j has near =
    let held = known_passes (λ o. in_sub g c s o.at) objects i u at_i has in
    let stays = overlap_is_enough g c s u.at v.at sky hc hs held near in
    near_by g objects c s j v (in_sub g c s v.at) refl at_j stays.near_its_sub stays.held
