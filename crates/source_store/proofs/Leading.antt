-- Where the id of an object leads: to the chunk of the object that has it, or nowhere.
use Rattle.std.proofs.Common.{◌≡◌, ◌∙◌, refl, ap, sym, subst, ℕ, ◌<◌, ◌==◌, zero, suc, Bool, true, false, ◌&&◌, ◌||◌, List, [], ◌∷◌, length, get_or, slice_get, None, Some, IsTrue, ◌⊎◌, inl, inr, ◌≢◌, ℤ, arith}
use Rattle.std.specs.List.{All, list_any}
use Rattle.std.specs.Ordering.{int_eq}
use Rattle.std.proofs.lemmas.Bool.{and_parts}
use Rattle.std.proofs.lemmas.Bool.Decides.{eqb_tells}
use Rattle.std.proofs.lemmas.Int.{ints}
use Rattle.std.proofs.lemmas.Option.{same_Some, none-some}
use Rattle.sky_rules.specs.Bounds.{in_chunk}
use Rattle.sky_rules.specs.Partition.{Partition, chunk_count}
use Rattle.table_rules.specs.Objects.{Obj}
use Rattle.table_rules.specs.Ordered.{has_id}
use Rattle.object_index.specs.Indexes.{IsPlaceOf}
use Rattle.chunk_store.proofs.Ranges.{filter_below}
use Rattle.source_rules.specs.Sources.{Source}
use Rattle.source_rules.specs.SourcePlaces.{chunk_sources, object_is_in, source_passes}
use Rattle.source_store.specs.NumbersByChunk.{AreNumbersByChunk, LeadsTo, is_chunk}

-- some object passes if one with a number does
any_at : (test : Obj → Bool) (objects : List Obj) (i : ℕ) (o : Obj) → slice_get objects i ≡ Some o → test o ≡ true → list_any test objects ≡ true
any_at test [] i o is h = absurd (none-some o is)
any_at test (a ∷ rest) zero o is h = rw (ap test (same_Some a o is) ∙ h) refl
any_at test (a ∷ rest) (suc i) o is h = any_by (test a) (any_at test rest i o is h)
  where
    any_by : (t : Bool) → list_any test rest ≡ true → (t || list_any test rest) ≡ true
    any_by true h = refl
    any_by false h = h

-- none passes if none with a number does
none_by : (test : Obj → Bool) (objects : List Obj) → ((i : ℕ) (o : Obj) → slice_get objects i ≡ Some o → test o ≡ false) → list_any test objects ≡ false
none_by test [] h = refl
none_by test (o ∷ rest) h = rw (h 0 o refl) (none_by test rest (λ i p e. h (suc i) p e))

-- the test of a chunk for the object with an id
abbrev is_here : Partition → ℤ → ℕ → Obj → Bool
is_here g id c o = int_eq o.id id && in_chunk g c o.at

equal_ids : (x y : ℤ) → int_eq x y ≡ true → x ≡ y
equal_ids x y h = grind (arith, ints)

same_ids : (x y : ℤ) → x ≡ y → int_eq x y ≡ true
same_ids x y h = grind (arith, ints)

other_way : (x y : ℤ) → int_eq x y ≡ false → int_eq y x ≡ false
other_way x y h = grind (arith, ints)

-- an id that an object has leads to the chunk of the object
pub leads_to_one : (g : Partition) (objects : List Obj) (id : ℤ) (chunk row : ℕ) → IsPlaceOf g objects id chunk row → LeadsTo g objects id (Some chunk)
leads_to_one g objects id chunk row place = record { there = place.there; each = λ c h. by c h (eqb_tells chunk c) }
  where
    alone : (c : ℕ) → c < chunk_count g → chunk ≢ c → (i : ℕ) (o : Obj) → slice_get objects i ≡ Some o → (t : Bool) → is_here g id c o ≡ t → t ≡ false
    alone c h other i o is false e = refl
    alone c h other i o is true e =
        let parts = and_parts (int_eq o.id id) (in_chunk g c o.at) e in
        let here : i ≡ row = place.is.alone i o is (equal_ids o.id id parts.0) in
        let same : o ≡ place.object = same_Some o place.object (sym is ∙ (ap (slice_get objects) here ∙ place.is.at)) in
        absurd (other (sym (place.only c h (subst (λ p. IsTrue (in_chunk g c p.at)) same parts.1))))

    by : (c : ℕ) → c < chunk_count g → (((chunk == c) ≡ true) × (chunk ≡ c)) ⊎ (((chunk == c) ≡ false) × (chunk ≢ c))
        → list_any (is_here g id c) objects ≡ is_chunk c (Some chunk)
    by c h (inl same) =
        let holds : in_chunk g c place.object.at ≡ true = subst (λ d. IsTrue (in_chunk g d place.object.at)) same.1 place.holds in
        any_at (is_here g id c) objects row place.object place.is.at (rw (same_ids place.object.id id place.is.has, holds) refl) ∙ sym same.0
    by c h (inr other) =
        none_by (is_here g id c) objects (λ i o is. alone c h other.1 i o is (is_here g id c o) refl) ∙ sym other.0

none_has : (g : Partition) (objects : List Obj) (id : ℤ) (c : ℕ) → has_id objects id ≡ false → list_any (is_here g id c) objects ≡ false
none_has g [] id c h = refl
none_has g (o ∷ rest) id c h = by (int_eq id o.id) refl (none_has g rest id c)
  where
    by : (t : Bool) → int_eq id o.id ≡ t → (has_id rest id ≡ false → list_any (is_here g id c) rest ≡ false) → list_any (is_here g id c) (o ∷ rest) ≡ false
    by true e later = absurd (cc (rw e at h))
    by false e later = rw (other_way id o.id e) (later (rw e at h))

-- an id that no object has leads nowhere
pub leads_nowhere : (g : Partition) (objects : List Obj) (id : ℤ) → has_id objects id ≡ false → LeadsTo g objects id None
leads_nowhere g objects id none = record { there = tt; each = λ c h. none_has g objects id c none }

-- each number is that of a source of the table
pub sources_there : (g : Partition) (objects : List Obj) (sources : List Source) (c : ℕ) → All (λ i. i < length sources) (chunk_sources g objects sources c)
sources_there g objects sources c = filter_below (λ i. source_passes (object_is_in g objects c) (slice_get sources i)) (length sources)

-- and so it is in each of the lists of all sources
pub lists_there : (g : Partition) (objects : List Obj) (sources : List Source) (lists : List (List ℕ)) → AreNumbersByChunk g objects sources (length sources) lists
    → (c : ℕ) → c < length lists → All (λ i. i < length sources) (get_or lists c [])
lists_there g objects sources lists are c low =
    subst (All (λ i. i < length sources)) (sym (are.each c (subst (λ n. c < n) are.all low))) (sources_there g objects sources c)
