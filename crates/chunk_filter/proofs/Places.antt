-- Places that are taken out of a list, one condition after the other.
use Rattle.std.proofs.Common.{◌≡◌, ◌∙◌, refl, sym, ap, subst, ℕ, ◌+◌, ◌<◌, ◌≤◌, arith, Bool, true, false, ◌&&◌, cond, List, [], ◌∷◌, ◌++◌, length, get_or, take, drop, set, filter, map, Option, Some, slice_get}
use Rattle.std.specs.Prelude.{All}
use Rattle.std.specs.List.{range_with_len}
use Rattle.std.proofs.lemmas.List.{drop_all, drop_more, drop-set-lt, length-set, take-set-le}
use Rattle.std.proofs.lemmas.List.Elements.{All-filter, All-head, All-tail, filter_passes}
use Rattle.std.proofs.lemmas.List.Filters.{FiltersInPlace, FiltersInPlace-more_no, FiltersInPlace-more_set}
use Rattle.std.proofs.lemmas.Option.{slice_get-get_or}
use Rattle.std.proofs.lemmas.Simd.{map-map}
use Rattle.table_rules.specs.Objects.{Obj}
use Rattle.sky_row.specs.Columns.{no_row, objects_at}
use Rattle.sky_rules.proofs.Ranges.{range_below}
use Rattle.sql_bound.specs.declared.cond.BoundCond.{BoundCond}
use Rattle.value_rules.specs.Truth.{is_true, meets, truth_of}
use Rattle.value_rules.specs.Values.{row}
use Rattle.chunk_rules.specs.Places.{passes}
use Rattle.chunk_store.proofs.Ranges.{filter_twice, places_there}
use Rattle.chunk_filter.specs.Selection.{AreDone, IsNarrowed, holds_at, meets_at, selection}

-- ---- a list that is filtered in place, without a branch

-- the element at i is written to the next free place, and counted where it passes
pub front_more : (test : ℕ → Bool) (old now : List ℕ) (count i x : ℕ) (b : Bool) → i < length now → FiltersInPlace test old now count i → x ≡ get_or now i x
    → test x ≡ b → FiltersInPlace test old (set now count x) (count + cond b 1 0) (i + 1)
front_more test old now count i x true there h at own = FiltersInPlace-more_set h there own at
front_more test old now count i x false there h at own =
    let next = FiltersInPlace-more_no h there own at in
    let same : count ≡ count + 0 = omega arith in
    subst (λ n. FiltersInPlace test old (set now count x) n (i + 1)) same (record {
      front = take-set-le count now count x (omega arith) ∙ next.front;
      rest = drop-set-lt (i + 1) now count x (omega (arith, h.behind)) ∙ next.rest;
      behind = next.behind;
      within = next.within;
      long = length-set now count x ∙ next.long;
    })

-- what stands at i is what stood there
pub still_there : (test : ℕ → Bool) (old now : List ℕ) (count i d : ℕ) → i < length now → FiltersInPlace test old now count i → get_or now i d ≡ get_or old i d
still_there test old now count i d there h =
    ap (λ l. get_or l 0 d) (sym (drop_more now i d there) ∙ (h.rest ∙ drop_more old i d (omega (arith, there, h.long))))

-- ---- filters

-- an element on which two tests agree
same_step : {X : Type 0} (x : X) (p q : Bool) (us vs : List X) → p ≡ q → us ≡ vs → cond p (x ∷ us) us ≡ cond q (x ∷ vs) vs
same_step x p q us vs is rest = rw (is, rest) refl

-- tests that agree on a list's elements keep the same of them
pub filter_same_on : {X : Type 0} (p q : X → Bool) (xs : List X) → All (λ x. p x ≡ q x) xs → filter p xs ≡ filter q xs
filter_same_on p q [] same = refl
filter_same_on p q (x ∷ xs) same =
    same_step x (p x) (q x) (filter p xs) (filter q xs) (All-head (λ y. p y ≡ q y) x xs same) (filter_same_on p q xs (All-tail (λ y. p y ≡ q y) x xs same))

keep_step : {X : Type 0} (x : X) (p : Bool) (us vs : List X) → p ≡ true → us ≡ vs → cond p (x ∷ us) us ≡ x ∷ vs
keep_step x p us vs is rest = rw (is, rest) refl

-- where all pass, nothing is left out
pub filter_all : {X : Type 0} (p : X → Bool) (xs : List X) → All (λ x. p x ≡ true) xs → filter p xs ≡ xs
filter_all p [] all = refl
filter_all p (x ∷ xs) all =
    keep_step x (p x) (filter p xs) xs (All-head (λ y. p y ≡ true) x xs all) (filter_all p xs (All-tail (λ y. p y ≡ true) x xs all))

-- what is true of each number below n that passes is true of what a range of them keeps
pub all_kept : (p : ℕ → Bool) (P : ℕ → Type 0) (n : ℕ) → ((k : ℕ) → k < n → p k ≡ true → P k) → All P (filter p (range_with_len 0 n))
all_kept p P n f = λ k d low.
    f (get_or (filter p (range_with_len 0 n)) k d) (All-filter p (λ c. c < n) (range_with_len 0 n) (range_below n) k d low)
    (filter_passes p (range_with_len 0 n) k d low)

-- ---- what a list is after its front was written

front_taken : {X : Type 0} (xs ys : List X) → take (length xs) (xs ++ ys) ≡ xs
front_taken [] ys = refl
front_taken (x ∷ xs) ys = ap (λ l. x ∷ l) (front_taken xs ys)

-- where all of it is written it is what was written
pub written_whole : {X : Type 0} (items new : List X) (n : ℕ) → length new ≡ n → take n (new ++ drop (length new) items) ≡ new
written_whole items new n is = ap (λ m. take m (new ++ drop (length new) items)) (sym is) ∙ front_taken new (drop (length new) items)

-- ---- conditions, one after the other

-- from the i-th element on a list is that element and the rest
pub drop_at : {X : Type 0} (xs : List X) (i : ℕ) (x : X) → i < length xs → x ≡ get_or xs i x → drop i xs ≡ x ∷ drop (i + 1) xs
drop_at xs i x there is = drop_more xs i x there ∙ ap (λ y. y ∷ drop (i + 1) xs) (sym is)

-- and it is the element there
pub found_at : {X : Type 0} (xs : List X) (i : ℕ) (x : X) → i < length xs → x ≡ get_or xs i x → slice_get xs i ≡ Some x
found_at xs i x there is = slice_get-get_or xs i x there ∙ ap Some (sym is)

-- the places of one condition more
pub rest_step : (objects : List Obj) (conds : List BoundCond) (i : ℕ) (c : BoundCond) (places new whole : List ℕ) → drop i conds ≡ c ∷ drop (i + 1) conds
    → new ≡ filter (holds_at c objects) places → filter (meets_at (drop i conds) objects) places ≡ whole
    → filter (meets_at (drop (i + 1) conds) objects) new ≡ whole
rest_step objects conds i c places new whole is made h =
    ap (filter (meets_at (drop (i + 1) conds) objects)) made
    ∙ (filter_twice (holds_at c objects) (meets_at (drop (i + 1) conds) objects) places
    ∙ (ap (λ cs. filter (meets_at cs objects) places) (sym is) ∙ h))

-- what is done stays done where places go
pub done_rest : (objects : List Obj) (conds : List BoundCond) (done : List Bool) (p : ℕ → Bool) (places new : List ℕ) → new ≡ filter p places
    → AreDone conds objects done places → AreDone conds objects done new
done_rest objects conds done p places new made h = λ i c at flag.
    subst (All (λ k. holds_at c objects k ≡ true)) (sym made) (All-filter p (λ k. holds_at c objects k ≡ true) places (h i c at flag))

-- at the end
pub rest_end : (objects : List Obj) (conds : List BoundCond) (i : ℕ) (places whole : List ℕ) → length conds ≤ i
    → filter (meets_at (drop i conds) objects) places ≡ whole → places ≡ whole
rest_end objects conds i places whole high h =
    sym (filter_all (λ k. true) places (λ k d low. refl))
    ∙ (ap (λ cs. filter (meets_at cs objects) places) (sym (drop_all i conds high)) ∙ h)

-- where the condition holds everywhere nothing is taken out
pub all_stay : (objects : List Obj) (c : BoundCond) (places : List ℕ) → All (λ k. holds_at c objects k ≡ true) places
    → places ≡ filter (holds_at c objects) places
all_stay objects c places all = sym (filter_all (holds_at c objects) places all)

-- where the truths of a condition are true, it holds
pub held : (objects : List Obj) (c : BoundCond) (places : List ℕ) (found : List (Option Bool)) (mask : List Bool) → mask ≡ map is_true found
    → found ≡ map (λ o. truth_of c (row o)) (objects_at objects places) → mask ≡ map (holds_at c objects) places
held objects c places found mask is are =
    is ∙ (ap (map is_true) are
    ∙ (map-map is_true (λ o. truth_of c (row o)) (objects_at objects places)
    ∙ map-map (λ o. is_true (truth_of c (row o))) (λ place. get_or objects place no_row) places))

-- ---- from the mask to the places

and_if : (a b : Bool) → (b ≡ true → a ≡ true) → (a && b) ≡ b
and_if true b f = refl
and_if false true f = f refl
and_if false false f = refl

-- at the places of the mask the conditions that are done hold
pub done_at_places : (conds : List BoundCond) (objects : List Obj) (done mask : List Bool) → IsNarrowed conds objects done mask
    → AreDone conds objects done (filter (λ k. get_or mask k false) (range_with_len 0 (length mask)))
done_at_places conds objects done mask h = λ i c at flag.
    all_kept (λ k. get_or mask k false) (λ k. holds_at c objects k ≡ true) (length mask)
    (λ k low stands. h.done i k c at flag (omega (arith, low, h.count)) stands)

-- those places are of the block
pub places_below : (conds : List BoundCond) (objects : List Obj) (done mask : List Bool) → IsNarrowed conds objects done mask
    → All (λ place. place < length objects) (filter (λ k. get_or mask k false) (range_with_len 0 (length mask)))
places_below conds objects done mask h =
    all_kept (λ k. get_or mask k false) (λ k. k < length objects) (length mask) (λ k low stands. omega (arith, low, h.count))

-- a row at a place meets the conditions
pub meets_there : (conds : List BoundCond) (objects : List Obj) (k : ℕ) → k < length objects
    → passes (λ o. meets conds (row o)) (slice_get objects k) ≡ meets_at conds objects k
meets_there conds objects k low = ap (passes (λ o. meets conds (row o))) (slice_get-get_or objects k no_row low)

-- those of them that meet all conditions are the places of the rows that do
pub selection_places : (conds : List BoundCond) (objects : List Obj) (done mask : List Bool) → IsNarrowed conds objects done mask
    → filter (meets_at conds objects) (filter (λ k. get_or mask k false) (range_with_len 0 (length mask))) ≡ selection conds objects
selection_places conds objects done mask h =
    filter_twice (λ k. get_or mask k false) (meets_at conds objects) (range_with_len 0 (length mask))
    ∙ (ap (λ n. filter (λ k. get_or mask k false && meets_at conds objects k) (range_with_len 0 n)) h.count
    ∙ filter_same_on (λ k. get_or mask k false && meets_at conds objects k) (λ k. passes (λ o. meets conds (row o)) (slice_get objects k))
    (range_with_len 0 (length objects)) (λ k d low.
    let place : ℕ = get_or (range_with_len 0 (length objects)) k d in
    let there : place < length objects = range_below (length objects) k d low in
    and_if (get_or mask place false) (meets_at conds objects place) (h.kept place there) ∙ sym (meets_there conds objects place there)))

-- they are places of the block
pub there_places : (conds : List BoundCond) (objects : List Obj) (places : List ℕ) → places ≡ selection conds objects → All (λ place. place < length objects) places
there_places conds objects places is =
    subst (All (λ place. place < length objects)) (sym is) (places_there (λ o. meets conds (row o)) objects)
