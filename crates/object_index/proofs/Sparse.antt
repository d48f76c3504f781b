-- The entries of a sparse index, and what is found among them.
use Rattle.std.proofs.Common.{◌≡◌, ◌∙◌, sym, refl, ap, subst, ℕ, ◌+◌, ◌-◌, ◌*◌, ◌<◌, ◌≤◌, arith, false, List, [], ◌∷◌, ◌++◌, length, drop, get_or, slice_get, Some, Err, ℤ, pos, ◌<ℤ◌, int_cmp, Equal, ◌⊎◌, inl, inr}
use Rattle.std.specs.List.{AllByRecursion, HoldsAt, list_any, slice_range}
use Rattle.std.specs.List.Sorted.{IsBinarySearchResult}
use Rattle.std.specs.Map.{keys_of, values_of}
use Rattle.std.specs.Ordering.{int_eq}
use Rattle.std.proofs.lemmas.Int.{ints}
use Rattle.std.proofs.lemmas.List.{get_or-map, length-map, length-take, length-drop, get_or-take, get_or-drop, get_or_push, get_or_append_left, length_push, get_or_default}
use Rattle.std.proofs.lemmas.List.Elements.{recursion_from_All}
use Rattle.std.proofs.lemmas.Option.{get_or_from_slice_get}
use Rattle.indexmap.specs.IndexMap.{insert_entry}
use Rattle.object_index.specs.declared.granules.TheConstants.{GRANULE}
use Rattle.object_index.specs.Granules.{AreFirsts, IsGranuleFor, IsSparse, first_of, granules}
use Rattle.object_index.proofs.Ascending.{Ascend, before, behind, equal, none_is}

abbrev Entries : Type 0
Entries = List (ℤ × ℕ)

-- each granule begins at a row
begins : (rows k : ℕ) → k < granules rows → k * GRANULE < rows
begins rows k low = omega arith

-- and no row stands behind the last granule
covered : (rows : ℕ) → rows ≤ granules rows * GRANULE
covered rows = omega arith

either : (a b : ℕ) → (a < b) ⊎ (b ≤ a)
either a b = grind arith

-- each of the entries has an id below this one
abbrev Below : ℤ → Entries → Type 0
Below id entries = AllByRecursion (λ e. e.0 <ℤ id) entries

not_equal : (x y : ℤ) → x <ℤ y → int_eq y x ≡ false
not_equal x y low = grind (arith, ints)

-- an id above all others goes behind them
goes_last : (entries : Entries) (id : ℤ) (row : ℕ) → Below id entries → insert_entry int_eq entries id row ≡ entries ++ (id, row) ∷ []
goes_last [] id row below = refl
goes_last (e ∷ es) id row below = rw (not_equal e.0 id below.0) (ap (λ l. e ∷ l) (goes_last es id row below.1))

-- the ids of the granules before one are below its first
below_next : (ids : List ℤ) (entries : Entries) (g : ℕ) → Ascend ids → g * GRANULE < length ids → AreFirsts ids g entries → Below (first_of ids g).0 entries
below_next ids entries g up low are = recursion_from_All (λ e. e.0 <ℤ (first_of ids g).0) entries (λ k d within.
    let less : k < g = omega (arith, within, are.all) in
    subst (λ (e : ℤ × ℕ). e.0 <ℤ (first_of ids g).0) (sym (are.each k d less)) (up (k * GRANULE) (g * GRANULE) (pos 0) (omega (arith, less)) low))

-- with the entry of the next granule behind the others they are those of one more
pub one_more : (ids : List ℤ) (entries new : Entries) (g : ℕ) → Ascend ids → g * GRANULE < length ids → AreFirsts ids g entries
    → new ≡ insert_entry int_eq entries (get_or ids (g * GRANULE) (pos 0)) (g * GRANULE) → AreFirsts ids (g + 1) new
one_more ids entries new g up low are put = subst (AreFirsts ids (g + 1)) (sym last) record {
  all = length_push entries (first_of ids g) ∙ ap (λ n. n + 1) are.all;
  each = λ k d less. by k d less (either k g);
}
  where
    last : new ≡ entries ++ first_of ids g ∷ []
    last = put ∙ goes_last entries (first_of ids g).0 (first_of ids g).1 (below_next ids entries g up low are)

    by : (k : ℕ) (d : ℤ × ℕ) → k < g + 1 → (k < g) ⊎ (g ≤ k) → get_or (entries ++ first_of ids g ∷ []) k d ≡ first_of ids k
    by k d less (inl old) = get_or_append_left entries (first_of ids g ∷ []) d k (omega (arith, old, are.all)) ∙ are.each k d old
    by k d less (inr at) =
        let is : k ≡ g = omega (arith, less, at) in
        get_or_push entries (first_of ids g) d k (are.all ∙ sym is) ∙ ap (first_of ids) (sym is)

-- the key at a place is the first id of the granule
key_at : (ids : List ℤ) (entries : Entries) (k : ℕ) (d : ℤ) → IsSparse ids entries → k < length entries → get_or (keys_of entries) k d ≡ get_or ids (k * GRANULE) d
key_at ids entries k d are within =
    let less : k < granules (length ids) = omega (arith, within, are.all) in
    get_or-map (λ e. e.0) entries k (d, 0) d within ∙ ap (λ e. e.0) (are.each k (d, 0) less)
    ∙ get_or_default ids (k * GRANULE) (pos 0) d (begins (length ids) k less)

-- the granule of an entry begins at a row
placed : (ids : List ℤ) (entries : Entries) (k : ℕ) → IsSparse ids entries → k < length entries → k * GRANULE < length ids
placed ids entries k are within = begins (length ids) k (omega (arith, within, are.all))

-- the keys ascend
keys_ascend : (ids : List ℤ) (entries : Entries) → Ascend ids → IsSparse ids entries → Ascend (keys_of entries)
keys_ascend ids entries up are i j d less within =
    let there : j < length entries = omega (arith, within, length-map entries (λ e. e.0)) in
    rw (key_at ids entries i d are (omega (arith, less, there)), key_at ids entries j d are there)
    (up (i * GRANULE) (j * GRANULE) d (omega (arith, less)) (placed ids entries j are there))

-- the value at a place is the number of the granule's first row
row_at : (ids : List ℤ) (entries : Entries) (k row : ℕ) → IsSparse ids entries → k < length entries → slice_get (values_of entries) k ≡ Some row → row ≡ k * GRANULE
row_at ids entries k row are within at =
    sym (get_or_from_slice_get (values_of entries) k row 0 at) ∙ get_or-map (λ e. e.1) entries k (pos 0, 0) 0 within
    ∙ ap (λ e. e.1) (are.each k (pos 0, 0) (omega (arith, within, are.all)))

-- an id that begins a granule lies in that one
pub at_first : (ids : List ℤ) (entries : Entries) (id : ℤ) (k row : ℕ) → Ascend ids → IsSparse ids entries → k < length entries
    → HoldsAt (λ z. int_cmp z id ≡ Equal) (keys_of entries) k → slice_get (values_of entries) k ≡ Some row → IsGranuleFor ids id row
at_first ids entries id k row up are within holds at = subst (IsGranuleFor ids id) (sym (row_at ids entries k row are within at)) record {
  there = low;
  before = λ i d less. subst (λ z. get_or ids i d <ℤ z) (is d) (up i (k * GRANULE) d less low);
  behind = λ i d le high. subst (λ z. z <ℤ get_or ids i d) (is d) (up (k * GRANULE) i d (omega (arith, le)) high);
}
  where
    low : k * GRANULE < length ids
    low = placed ids entries k are within

    is : (d : ℤ) → get_or ids (k * GRANULE) d ≡ id
    is d = sym (key_at ids entries k d are within) ∙ equal _ id (holds d)

-- an id that is below no granule's first lies in the last of those that begin below it
pub after_first : (ids : List ℤ) (entries : Entries) (id : ℤ) (next k row : ℕ) → Ascend ids → IsSparse ids entries → k + 1 ≡ next → next ≤ length entries
    → IsBinarySearchResult (λ z. int_cmp z id) (keys_of entries) (Err next) → slice_get (values_of entries) k ≡ Some row → IsGranuleFor ids id row
after_first ids entries id next k row up are is le found at = subst (IsGranuleFor ids id) (sym (row_at ids entries k row are within at)) record {
  there = low;
  before = λ i d less. trans (get_or ids i d) _ id (up i (k * GRANULE) d less low) (begun d);
  behind = λ i d past high. by i d past high (either (k + 1) (length entries));
}
  where
    within : k < length entries
    within = omega (arith, is, le)

    low : k * GRANULE < length ids
    low = placed ids entries k are within

    trans : (x y z : ℤ) → x <ℤ y → y <ℤ z → x <ℤ z
    trans x y z a b = grind (arith, ints)

    begun : (d : ℤ) → get_or ids (k * GRANULE) d <ℤ id
    begun d =
        subst (λ z. z <ℤ id) (key_at ids entries k d are within)
        (before (keys_of entries) id next (keys_ascend ids entries up are) found k d (omega (arith, is)))

    by : (i : ℕ) (d : ℤ) → k * GRANULE + GRANULE ≤ i → i < length ids → (k + 1 < length entries) ⊎ (length entries ≤ k + 1) → id <ℤ get_or ids i d
    by i d past high (inl more) =
        let above : id <ℤ get_or ids ((k + 1) * GRANULE) d =
        subst (λ z. id <ℤ z) (key_at ids entries (k + 1) d are more)
        (behind (keys_of entries) id next (keys_ascend ids entries up are) found (k + 1) d (omega (arith, is)) (omega (arith, more, length-map entries (λ e. e.0))))
        in
        no_lower ((k + 1) * GRANULE) i d (omega (arith, past)) high above (either ((k + 1) * GRANULE) i)
      where
        no_lower : (a i : ℕ) (d : ℤ) → a ≤ i → i < length ids → id <ℤ get_or ids a d → (a < i) ⊎ (i ≤ a) → id <ℤ get_or ids i d
        no_lower a i d le high above (inl less) = trans id _ _ above (up a i d less high)
        no_lower a i d le high above (inr same) = subst (λ n. id <ℤ get_or ids n d) (omega (arith, le, same)) above
    by i d past high (inr last) =
        absurd (omega (arith, past, high, last, are.all, covered (length ids)))

-- an id below the first one is none of them
pub below_all : (ids : List ℤ) (entries : Entries) (id : ℤ) (next : ℕ) → Ascend ids → IsSparse ids entries → next ≡ 0
    → IsBinarySearchResult (λ z. int_cmp z id) (keys_of entries) (Err next) → list_any (int_eq id) ids ≡ false
below_all ids entries id next up are is found = none_is ids id (λ k d within. inr (by k d within (either 0 k)))
  where
    some : (k : ℕ) → k < length ids → 0 < length entries
    some k within = omega (arith, within, are.all, covered (length ids))

    first : (k : ℕ) (d : ℤ) → k < length ids → id <ℤ get_or ids 0 d
    first k d within =
        subst (λ z. id <ℤ z) (key_at ids entries 0 d are (some k within))
        (behind (keys_of entries) id next (keys_ascend ids entries up are) found 0 d (omega (arith, is)) (omega (arith, some k within, length-map entries (λ e. e.0))))

    trans : (x y z : ℤ) → x <ℤ y → y <ℤ z → x <ℤ z
    trans x y z a b = grind (arith, ints)

    by : (k : ℕ) (d : ℤ) → k < length ids → (0 < k) ⊎ (k ≤ 0) → id <ℤ get_or ids k d
    by k d within (inl more) = trans id _ _ (first k d within) (up 0 k d more within)
    by k d within (inr none) = subst (λ n. id <ℤ get_or ids n d) (omega (arith, none)) (first k d within)

-- an id that is not found in its granule is none of them
pub not_among : (ids part : List ℤ) (id : ℤ) (first end at : ℕ) → Ascend ids → IsGranuleFor ids id first → part ≡ slice_range ids first end
    → first ≤ end → end ≤ length ids → (end ≡ length ids) ⊎ (end ≡ first + GRANULE)
    → IsBinarySearchResult (λ z. int_cmp z id) part (Err at) → list_any (int_eq id) ids ≡ false
not_among ids part id first end at up granule is from to ends found = none_is ids id (λ k d within. by k d within (either k first))
  where
    long : length part ≡ end - first
    long = omega (arith, ap length is, length-take (end - first) (drop first ids), length-drop first ids, from, to)

    there : (k : ℕ) (d : ℤ) → k < length part → get_or part k d ≡ get_or ids (first + k) d
    there k d within =
        ap (λ (l : List ℤ). get_or l k d) is ∙ get_or-take (end - first) (drop first ids) k d (omega (arith, within, long))
        ∙ get_or-drop first ids k d

    ascend : Ascend part
    ascend i j d less within =
        rw (there i d (omega (arith, less, within)), there j d within)
        (up (first + i) (first + j) d (omega (arith, less)) (omega (arith, within, long, from, to)))

    inside : (k : ℕ) (d : ℤ) → first ≤ k → k - first < length part → (k - first < at) ⊎ (at ≤ k - first) → (get_or ids k d <ℤ id) ⊎ (id <ℤ get_or ids k d)
    inside k d le within (inl less) =
        inl (subst (λ n. get_or ids n d <ℤ id) (omega (arith, le)) (subst (λ z. z <ℤ id) (there (k - first) d within) (before part id at ascend found (k - first) d less)))
    inside k d le within (inr more) =
        inr (subst (λ n. id <ℤ get_or ids n d) (omega (arith, le)) (subst (λ z. id <ℤ z) (there (k - first) d within) (behind part id at ascend found (k - first) d more within)))

    ended : (k : ℕ) → end ≤ k → k < length ids → (end ≡ length ids) ⊎ (end ≡ first + GRANULE) → first + GRANULE ≤ k
    ended k le within (inl all) = absurd (omega (arith, le, within, all))
    ended k le within (inr whole) = omega (arith, le, whole)

    by_end : (k : ℕ) (d : ℤ) → first ≤ k → k < length ids → (k < end) ⊎ (end ≤ k) → (get_or ids k d <ℤ id) ⊎ (id <ℤ get_or ids k d)
    by_end k d le within (inl less) = inside k d le (omega (arith, le, less, long)) (either (k - first) at)
    by_end k d le within (inr more) = inr (granule.behind k d (ended k more within ends) within)

    by : (k : ℕ) (d : ℤ) → k < length ids → (k < first) ⊎ (first ≤ k) → (get_or ids k d <ℤ id) ⊎ (id <ℤ get_or ids k d)
    by k d within (inl less) = inl (granule.before k d less)
    by k d within (inr le) = by_end k d le within (either k end)
