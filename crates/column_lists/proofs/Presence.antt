-- A further column as it is kept, and what it tells of each row.
use Rattle.std.proofs.Common.{◌≡◌, ◌∙◌, sym, refl, ap, ℕ, ◌+◌, ◌-◌, ◌≤◌, ◌<◌, min, arith, suc, zero, Bool, true, false, List, [], ◌∷◌, ◌++◌, length, map, take, replicate, Option, Some, None, ℤ, pos, get_or, ◌⊎◌, if◌then◌else◌}
use mathlib.Core.Logic.{inl, inr}
use Rattle.std.specs.Prelude.{IsTrue, All, unwrap_or}
use Rattle.std.specs.List.{range_with_len}
use Rattle.std.specs.Option.{is_some}
use Rattle.std.proofs.lemmas.List.{length-map, length-take, length-append, length-replicate, get_or-take, get_or-map, get_or-replicate, get_or_append_left, get_or_push, get_or_past, get_or_default, length_push, same_lists, take_all}
use Rattle.std.proofs.lemmas.List.FromFn.{length-map-range_with_len, get_or-map-range_with_len, take-map-range_with_len, map-range_with_len_more, fill_by_all}
use Rattle.std.specs.List.{list_all}
use Rattle.std.proofs.lemmas.List.Folds.{list_all_at}
use Rattle.column_lists.specs.Columns.{cell_at, cells_of, or_zero, IsKept, IsGathered, IsPresenceAt}

-- two lists by places are one where they agree at each
pub same_by_places : {X : Type 0} (f g : ℕ → X) (n : ℕ) → ((i : ℕ) → i < n → f i ≡ g i) → map f (range_with_len 0 n) ≡ map g (range_with_len 0 n)
same_by_places f g n same =
    fill_by_all g (map f (range_with_len 0 n)) n (f 0) (length-map-range_with_len f 0 n)
    (λ i low. get_or-map-range_with_len f 0 n i i (f 0) low (omega arith) ∙ same i low)

-- a column has a value or NULL for each number
pub count : (values : List ℤ) (present : List Bool) → length (cells_of values present) ≡ length values
count values present = length-map-range_with_len (cell_at values present) 0 (length values)

-- the value at a place
pub cell_is : (values : List ℤ) (present : List Bool) (i : ℕ) (d : Option ℤ) → i < length values → get_or (cells_of values present) i d ≡ cell_at values present i
cell_is values present i d low = get_or-map-range_with_len (cell_at values present) 0 (length values) i i d low (omega arith)

zero_by : (v : ℤ) (t : Bool) → (t ≡ false → v ≡ pos 0) → v ≡ or_zero (if t then Some v else None)
zero_by v true off = refl
zero_by v false off = off refl

-- the numbers are the values, and 0 for NULL
pub numbers_are : (values : List ℤ) (present : List Bool) → IsKept values present → values ≡ map or_zero (cells_of values present)
numbers_are values present kept =
    same_lists values (map or_zero (cells_of values present)) (sym (length-map (cells_of values present) or_zero ∙ count values present))
    (λ i d low.
    let long : i < length (cells_of values present) = omega (arith, count values present, low) in
    get_or_default values i d (pos 0) low
    ∙ (zero_by (get_or values i (pos 0)) (get_or present i true) (kept.zero i)
    ∙ (ap or_zero (sym (cell_is values present i None low))
    ∙ sym (get_or-map or_zero (cells_of values present) i None d long))))

pub some_by : (v : ℤ) (t : Bool) → t ≡ is_some (if t then Some v else None)
some_by v true = refl
some_by v false = refl

-- the presence is which rows have a value
pub presence_is : (values : List ℤ) (present : List Bool) → length present ≡ length values → present ≡ map is_some (cells_of values present)
presence_is values present same =
    same_lists present (map is_some (cells_of values present)) (same ∙ sym (length-map (cells_of values present) is_some ∙ count values present))
    (λ i d low.
    let there : i < length values = omega (arith, same, low) in
    let long : i < length (cells_of values present) = omega (arith, count values present, there) in
    get_or_default present i d true low
    ∙ (some_by (get_or values i (pos 0)) (get_or present i true)
    ∙ (ap is_some (sym (cell_is values present i None there))
    ∙ sym (get_or-map is_some (cells_of values present) i None d long))))

-- where no presence is kept, each row has a value
pub all_present : (values : List ℤ) (i : ℕ) (d : Option ℤ) → i < length (cells_of values []) → IsTrue (is_some (get_or (cells_of values []) i d))
all_present values i d low =
    let there : i < length values = omega (arith, count values [], low) in
    ap is_some (cell_is values [] i d there)

-- what is kept of a column is a front of both lists
pub front_is : (values : List ℤ) (present : List Bool) (n : ℕ) → cells_of (take n values) (take n present) ≡ take n (cells_of values present)
front_is values present n =
    let long : length (take n values) ≡ min n (length values) = length-take n values in
    same_lists (cells_of (take n values) (take n present)) (take n (cells_of values present))
    (let a = count (take n values) (take n present) in
    let b = length-take n (cells_of values present) in
    let e = count values present in
    omega (arith, a, b, e, long))
    (λ i d low.
    let there : i < length (take n values) = omega (arith, count (take n values) (take n present), low) in
    let within : i < n = omega (arith, there, long) in
    cell_is (take n values) (take n present) i d there
    ∙ (front_cell values present n i within
    ∙ (sym (cell_is values present i d (omega (arith, there, long)))
    ∙ sym (get_or-take n (cells_of values present) i d within))))
  where
    front_cell : (values : List ℤ) (present : List Bool) (n i : ℕ) → i < n → cell_at (take n values) (take n present) i ≡ cell_at values present i
    front_cell values present n i within = rw (get_or-take n values i (pos 0) within, get_or-take n present i true within) refl

-- a front of a column has a presence for each row or none
front_presence : (values : List ℤ) (present : List Bool) (n : ℕ) → (present ≡ []) ⊎ (length present ≡ length values) → (take n present ≡ []) ⊎ (length (take n present) ≡ length (take n values))
front_presence values present zero h = inl refl
front_presence values present (suc n) (inl none) = inl (ap (take (suc n)) none)
front_presence values present (suc n) (inr same) =
    let a = length-take (suc n) present in
    let b = length-take (suc n) values in
    inr (omega (arith, a, b, same))

-- a presence that is not empty is one for each row
pub full_presence : (values : List ℤ) (present : List Bool) → (present ≡ []) ⊎ (length present ≡ length values) → 0 < length present → length present ≡ length values
full_presence values present (inl none) some = absurd (omega (arith, some, ap length none))
full_presence values present (inr same) some = same

-- where no presence is kept, none is false
pub whole_kept : (values : List ℤ) (present : List Bool) → present ≡ [] → IsKept values present
whole_kept values present none = record {
  presence = inl none;
  zero = λ i off. absurd (true_not_false (sym (ap (λ p. get_or p i true) none) ∙ off));
}
  where
    true_not_false : true ≡ false → ⊥
    true_not_false h = cc h

-- one value more in a column in which each row has one
pub whole_more : (values new : List ℤ) (present : List Bool) (number : ℤ) → present ≡ [] → new ≡ values ++ number ∷ []
    → cells_of new present ≡ cells_of values present ++ Some number ∷ []
whole_more values new present number none is =
    rw (none, is, length_push values number) (
    map-range_with_len_more (cell_at (values ++ number ∷ []) []) 0 (length values) (length values) (omega arith)
    ∙ (ap (λ l. l ++ Some (get_or (values ++ number ∷ []) (length values) (pos 0)) ∷ [])
    (same_by_places (cell_at (values ++ number ∷ []) []) (cell_at values []) (length values) (λ i low. ap Some (get_or_append_left values (number ∷ []) (pos 0) i low)))
    ∙ ap (λ v. cells_of values [] ++ Some v ∷ []) (get_or_push values number (pos 0) (length values) refl)))

-- the value that a number and its presence tell
told_by : (value : Option ℤ) → (if is_some value then Some (or_zero value) else None) ≡ value
told_by None = refl
told_by (Some v) = refl

-- one value more in a column with a presence for each row
pub present_more : (values new : List ℤ) (present more : List Bool) (value : Option ℤ) → length present ≡ length values
    → new ≡ values ++ or_zero value ∷ [] → more ≡ present ++ is_some value ∷ []
    → cells_of new more ≡ cells_of values present ++ value ∷ []
present_more values new present more value full is has =
    rw (is, has, length_push values (or_zero value)) (
    map-range_with_len_more (cell_at (values ++ or_zero value ∷ []) (present ++ is_some value ∷ [])) 0 (length values) (length values) (omega arith)
    ∙ (ap (λ l. l ++ cell_at (values ++ or_zero value ∷ []) (present ++ is_some value ∷ []) (length values) ∷ [])
    (same_by_places (cell_at (values ++ or_zero value ∷ []) (present ++ is_some value ∷ [])) (cell_at values present) (length values)
    (λ i low. rw (get_or_append_left values (or_zero value ∷ []) (pos 0) i low, get_or_append_left present (is_some value ∷ []) true i (omega (arith, low, full))) refl))
    ∙ ap (λ c. cells_of values present ++ c ∷ [])
    (rw (get_or_push values (or_zero value) (pos 0) (length values) refl, get_or_push present (is_some value) true (length values) full) (told_by value))))

zero_at : (value : Option ℤ) → is_some value ≡ false → or_zero value ≡ pos 0
zero_at None off = refl
zero_at (Some v) off = cc off

-- it is kept as the others are
pub present_kept : (values new : List ℤ) (present more : List Bool) (value : Option ℤ) → length present ≡ length values
    → IsKept values present → new ≡ values ++ or_zero value ∷ [] → more ≡ present ++ is_some value ∷ [] → IsKept new more
present_kept values new present more value full kept is has = record {
  presence = inr (rw (is, has) (omega (arith, length_push values (or_zero value), length_push present (is_some value), full)));
  zero = λ i off. rw is (zero_of i (rw has at off) (compare i));
}
  where
    compare : (i : ℕ) → (i < length values) ⊎ ((length values ≡ i) ⊎ (length values < i))
    compare i = grind arith

    zero_of : (i : ℕ) → get_or (present ++ is_some value ∷ []) i true ≡ false → (i < length values) ⊎ ((length values ≡ i) ⊎ (length values < i))
        → get_or (values ++ or_zero value ∷ []) i (pos 0) ≡ pos 0
    zero_of i off (inl low) =
        get_or_append_left values (or_zero value ∷ []) (pos 0) i low
        ∙ kept.zero i (sym (get_or_append_left present (is_some value ∷ []) true i (omega (arith, low, full))) ∙ off)
    zero_of i off (inr (inl here)) =
        get_or_push values (or_zero value) (pos 0) i here
        ∙ zero_at value (sym (get_or_push present (is_some value) true i (full ∙ here)) ∙ off)
    zero_of i off (inr (inr behind)) =
        get_or_past (values ++ or_zero value ∷ []) i (pos 0) (omega (arith, length_push values (or_zero value), behind))

-- a presence that is true of each row tells what none tells
pub made_presence : (values : List ℤ) (present made : List Bool) → present ≡ [] → made ≡ replicate (length values) true → cells_of values made ≡ cells_of values present
made_presence values present made none is =
    same_by_places (cell_at values made) (cell_at values present) (length values)
    (λ i low. rw (is, none, get_or-replicate (length values) i true true low) refl)

pub made_kept : (values : List ℤ) (made : List Bool) → made ≡ replicate (length values) true → IsKept values made
made_kept values made is = record {
  presence = inr (rw is (length-replicate (length values) true));
  zero = λ i off. absurd (never i off);
}
  where
    never : (i : ℕ) → get_or made i true ≡ false → ⊥
    never i off = grind (arith, is, off, get_or-replicate, get_or_past, length-replicate)

-- where each row has a value, a presence tells of each place what none tells
pub whole_is_true : (found : List Bool) (k : ℕ) → list_all (λ present. present) found ≡ true → get_or found k true ≡ true
whole_is_true found k whole = by_value (get_or found k true) refl (compare k)
  where
    compare : (k : ℕ) → (k < length found) ⊎ (length found ≤ k)
    compare k = grind arith

    by_value : (b : Bool) → get_or found k true ≡ b → (k < length found) ⊎ (length found ≤ k) → get_or found k true ≡ true
    by_value true is at = is
    by_value false is (inr behind) = get_or_past found k true behind
    by_value false is (inl low) = absurd (cc (list_all_at (λ present. present) found k true low is, whole))

-- ---- at places

-- values at places are those of the list
pub gathered_is : {X : Type 0} (values : List X) (places : List ℕ) (found : List X) (e : X) → IsGathered values places found → found ≡ map (λ place. get_or values place e) places
gathered_is values places found e is =
    same_lists found (map (λ place. get_or values place e) places) (is.count ∙ sym (length-map places (λ place. get_or values place e)))
    (λ k d low.
    let there : k < length places = omega (arith, low, is.count) in
    get_or_default found k d e low ∙ (is.each k e there ∙ sym (get_or-map (λ place. get_or values place e) places k 0 d there)))

-- the values and the presence at places tell the cells at these places
pub gathered_cells : (values : List ℤ) (present : List Bool) (places : List ℕ) (found : List ℤ) (has : List Bool)
    → All (λ place. place < length values) places → IsGathered values places found → IsPresenceAt present places has
    → cells_of found has ≡ map (λ place. get_or (cells_of values present) place None) places
gathered_cells values present places found has there is shown =
    same_lists (cells_of found has) (map (λ place. get_or (cells_of values present) place None) places)
    (count found has ∙ (is.count ∙ sym (length-map places (λ place. get_or (cells_of values present) place None))))
    (λ k d low.
    let within : k < length found = omega (arith, low, count found has) in
    let at : k < length places = omega (arith, within, is.count) in
    cell_is found has k d within
    ∙ (rw (is.each k (pos 0) at, shown.each k at) refl
    ∙ (sym (cell_is values present (get_or places k 0) None (there k 0 at))
    ∙ sym (get_or-map (λ place. get_or (cells_of values present) place None) places k 0 d at))))

pub gathered_kept : (values : List ℤ) (present : List Bool) (places : List ℕ) (found : List ℤ) (has : List Bool)
    → IsKept values present → IsGathered values places found → IsPresenceAt present places has → IsKept found has
gathered_kept values present places found has kept is shown = record {
  presence = presence shown.presence;
  zero = λ i off. zero_of i off (compare i);
}
  where
    presence : (has ≡ []) ⊎ (length has ≡ length places) → (has ≡ []) ⊎ (length has ≡ length found)
    presence (inl none) = inl none
    presence (inr same) = inr (same ∙ sym is.count)

    compare : (i : ℕ) → (i < length places) ⊎ (length places ≤ i)
    compare i = grind arith

    zero_of : (i : ℕ) → get_or has i true ≡ false → (i < length places) ⊎ (length places ≤ i) → get_or found i (pos 0) ≡ pos 0
    zero_of i off (inl low) = is.each i (pos 0) low ∙ kept.zero (get_or places i 0) (sym (shown.each i low) ∙ off)
    zero_of i off (inr high) = get_or_past found i (pos 0) (omega (arith, high, is.count))

-- the places of a column's cells are those of its numbers
pub within_values : (values : List ℤ) (present : List Bool) (cells : List (Option ℤ)) (places : List ℕ) → cells_of values present ≡ cells
    → All (λ place. place < length cells) places → All (λ place. place < length values) places
within_values values present cells places is there = λ k d low.
    let same : length cells ≡ length values = ap length (sym is) ∙ count values present in
    omega (arith, there k d low, same)
