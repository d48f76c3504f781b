-- Lists of places while rows are put into them.
use Rattle.std.proofs.Common.{◌≡◌, ℕ, ◌+◌, ◌<◌, ◌==◌, Bool, true, false, not, ◌&&◌, List, [], ◌∷◌, ◌++◌, filter, cond, map}
use Rattle.std.proofs.Common.{refl, ap, sym, subst, ◌∙◌, arith, length, take, get_or, set, replicate, slice_get, ◌⊎◌, inl, inr, ◌≢◌, Some, IsTrue}
use Rattle.std.specs.List.{All}
use Rattle.std.proofs.lemmas.List.{append-nil, append_assoc, map-append, map-set, length-map, get_or-map, take_more, get_or-set_same, get_or-set_other, length-set, get_or-replicate, length-replicate}
use Rattle.std.proofs.lemmas.List.Elements.{filter-append}
use Rattle.std.proofs.lemmas.Bool.Decides.{eqb_tells}
use Rattle.sky_vector.specs.Points.{Point}
use Rattle.table_rules.specs.Objects.{Obj}
use Rattle.sky_rules.specs.Partition.{Partition, chunk_count}
use Rattle.sky_rules.specs.Bounds.{in_chunk, near_chunk}
use Rattle.sky_plan.specs.Places.{IsOnlyChunk}
use Rattle.overlap_tables.specs.Overlaps.{near_others}
use Rattle.chunk_rules.specs.Places.{passes}
use Rattle.chunk_store.specs.Lists.{kept_if, as_often, Pushed, places_from, AreListsFrom, own_test, overlap_test}
use Rattle.chunk_store.proofs.Ranges.{filter_more_from, filter_below, one_of}

-- before a push
pub pushed_none : (place : ℕ) (lists : List (List ℕ)) → Pushed [] place lists lists
pushed_none place lists = record { same = refl; each = λ c h. sym (append-nil (get_or lists c [])) }

-- one list is longer by the place
pub pushed_one : (chunk place : ℕ) (lists : List (List ℕ)) (old : List ℕ) → chunk < length lists → old ≡ get_or lists chunk []
    → Pushed (chunk ∷ []) place lists (set lists chunk (old ++ place ∷ []))
pushed_one chunk place lists old there is = record { same = length-set lists chunk (old ++ place ∷ []); each = λ c h. by c (eqb_tells chunk c) }
  where
    by : (c : ℕ) → (((chunk == c) ≡ true) × (chunk ≡ c)) ⊎ (((chunk == c) ≡ false) × (chunk ≢ c))
        → get_or (set lists chunk (old ++ place ∷ [])) c [] ≡ get_or lists c [] ++ as_often place c (chunk ∷ [])
    by c (inl same) =
        subst (λ x. get_or (set lists chunk (old ++ place ∷ [])) x [] ≡ get_or lists x [] ++ as_often place c (chunk ∷ [])) same.1
        (get_or-set_same lists chunk (old ++ place ∷ []) [] there
        ∙ (ap (λ l. l ++ place ∷ []) is ∙ ap (λ b. get_or lists chunk [] ++ map (λ d. place) (cond b (chunk ∷ []) [])) (sym same.0)))
    by c (inr other) =
        get_or-set_other lists chunk c (old ++ place ∷ []) [] (λ e. other.1 (sym e))
        ∙ (sym (append-nil (get_or lists c [])) ∙ ap (λ b. get_or lists c [] ++ map (λ d. place) (cond b (chunk ∷ []) [])) (sym other.0))

-- the same of lists as they are kept
pub pushed_into : {V : Type 0} (f : V → List ℕ) (vs : List V) (chunk place : ℕ) (v w : V) → chunk < length vs → w ≡ get_or vs chunk w → f v ≡ f w ++ place ∷ []
    → Pushed (chunk ∷ []) place (map f vs) (map f (set vs chunk v))
pushed_into f vs chunk place v w there was is =
    subst (λ l. Pushed (chunk ∷ []) place (map f vs) l) (ap (set (map f vs) chunk) (sym is) ∙ sym (map-set f vs chunk v))
    (pushed_one chunk place (map f vs) (f w) (omega (arith, length-map vs f, there)) (ap f was ∙ sym (get_or-map f vs chunk w [] there)))

often_more : (place c : ℕ) (before after : List ℕ) → as_often place c before ++ as_often place c after ≡ as_often place c (before ++ after)
often_more place c before after =
    sym (map-append (λ d. place) (filter (λ d. d == c) before) (filter (λ d. d == c) after))
    ∙ ap (map (λ d. place)) (sym (filter-append (λ d. d == c) before after))

-- a chunk more
pub pushed_more : (chunks : List ℕ) (i chunk place : ℕ) (first old new : List (List ℕ)) → i < length chunks → chunk ≡ get_or chunks i chunk
    → Pushed (take i chunks) place first old → Pushed (chunk ∷ []) place old new → Pushed (take (i + 1) chunks) place first new
pushed_more chunks i chunk place first old new low is before one = record { same = one.same ∙ before.same; each = at }
  where
    at : (c : ℕ) → c < length first → get_or new c [] ≡ get_or first c [] ++ as_often place c (take (i + 1) chunks)
    at c h =
        one.each c (subst (λ n. c < n) (sym before.same) h)
        ∙ (ap (λ l. l ++ as_often place c (chunk ∷ [])) (before.each c h)
        ∙ (append_assoc (get_or first c []) (as_often place c (take i chunks)) (as_often place c (chunk ∷ []))
        ∙ ap (λ l. get_or first c [] ++ l) (often_more place c (take i chunks) (chunk ∷ [])
        ∙ ap (as_often place c) (ap (λ x. take i chunks ++ x ∷ []) is ∙ sym (take_more chunks i chunk low)))))

-- empty lists, before the first row
pub lists_start : (test : ℕ → Obj → Bool) (count : ℕ) (objects : List Obj) (from : ℕ) → AreListsFrom test count objects from 0 (replicate count [])
lists_start test count objects from = record { all = length-replicate count []; each = λ c h. get_or-replicate count c [] [] h }

-- a row more
pub lists_more : (test : ℕ → Obj → Bool) (count : ℕ) (objects : List Obj) (from n : ℕ) (chunks : List ℕ) (old new : List (List ℕ))
    → AreListsFrom test count objects from n old → Pushed chunks (from + n) old new
    → ((c : ℕ) → c < count → as_often (from + n) c chunks ≡ kept_if (passes (test c) (slice_get objects (from + n))) (from + n))
    → AreListsFrom test count objects from (n + 1) new
lists_more test count objects from n chunks old new are pushed often = record { all = pushed.same ∙ are.all; each = at }
  where
    at : (c : ℕ) → c < count → get_or new c [] ≡ places_from from (n + 1) (test c) objects
    at c h =
        pushed.each c (subst (λ k. c < k) (sym are.all) h)
        ∙ (ap (λ l. l ++ as_often (from + n) c chunks) (are.each c h)
        ∙ (ap (λ l. places_from from n (test c) objects ++ l) (often c h)
        ∙ sym (filter_more_from (λ i. passes (test c) (slice_get objects i)) from n)))

held_step : (b t : Bool) (place d c : ℕ) → (d == c) ≡ b → t ≡ b → map (λ e. place) (cond (d == c) (d ∷ []) []) ≡ kept_if t place
held_step true t place d c e f = rw (e, f) refl
held_step false t place d c e f = rw (e, f) refl

-- a place is put into the one list that it passes the test of
pub held_often : (test : ℕ → Bool) (count place d : ℕ) → test d ≡ true → ((c : ℕ) → c < count → test c ≡ true → c ≡ d)
    → (c : ℕ) → c < count → as_often place c (d ∷ []) ≡ kept_if (test c) place
held_often test count place d holds only c h = by (eqb_tells d c)
  where
    apart : (b : Bool) → test c ≡ b → d ≢ c → b ≡ false
    apart true e other = absurd (other (sym (only c h e)))
    apart false e other = refl

    by : (((d == c) ≡ true) × (d ≡ c)) ⊎ (((d == c) ≡ false) × (d ≢ c)) → as_often place c (d ∷ []) ≡ kept_if (test c) place
    by (inl same) = held_step true (test c) place d c same.0 (subst (λ x. test x ≡ true) same.1 holds)
    by (inr other) = held_step false (test c) place d c other.0 (apart (test c) refl other.1)

-- a row is put into the list of the one chunk that holds it
pub own_often : (g : Partition) (objects : List Obj) (place d : ℕ) (row : Obj) → slice_get objects place ≡ Some row
    → IsTrue (in_chunk g d row.at) → IsOnlyChunk g d row.at
    → (c : ℕ) → c < chunk_count g → as_often place c (d ∷ []) ≡ kept_if (passes (own_test g c) (slice_get objects place)) place
own_often g objects place d row is holds only c h =
    held_often (λ e. in_chunk g e row.at) (chunk_count g) place d holds only c h
    ∙ ap (λ o. kept_if (passes (own_test g c) o) place) (sym is)

near_step : (b : Bool) (place c : ℕ) → map (λ d. place) (kept_if b c) ≡ kept_if b place
near_step true place c = refl
near_step false place c = refl

-- and into those of the chunks that it is near
pub near_often : (g : Partition) (objects : List Obj) (place : ℕ) (row : Obj) → slice_get objects place ≡ Some row
    → (c : ℕ) → c < chunk_count g → as_often place c (near_others g row.at) ≡ kept_if (passes (overlap_test g c) (slice_get objects place)) place
near_often g objects place row is c h =
    ap (map (λ d. place)) (one_of (λ d. near_chunk g d row.at && not (in_chunk g d row.at)) c 0 (chunk_count g) (omega arith) (omega (arith, h)))
    ∙ (near_step (overlap_test g c row) place c ∙ ap (λ o. kept_if (passes (overlap_test g c) o) place) (sym is))

-- each chunk that a point is near is one of the partition
pub near_there : (g : Partition) (p : Point) → All (λ c. c < chunk_count g) (near_others g p)
near_there g p = filter_below (λ d. near_chunk g d p && not (in_chunk g d p)) (chunk_count g)
