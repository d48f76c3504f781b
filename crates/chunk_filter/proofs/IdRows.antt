-- The rows that have one of some ids, found one id after the other.
use Rattle.std.proofs.Common.{◌≡◌, ◌≢◌, ◌∙◌, refl, sym, ap, subst, ℕ, zero, suc, ◌+◌, ◌-◌, ◌<◌, ◌≤◌, ◌⊎◌, inl, inr, arith, ℤ, pos, ◌<ℤ◌, Bool, true, false, ◌||◌, List, [], ◌∷◌, ◌++◌, length, get_or, map, Ok, Err, Result, int_cmp, nat_cmp, Less, Equal, Greater}
use Rattle.std.specs.Prelude.{All, AllPairs, IfOk, OnOk}
use Rattle.std.specs.List.{Contains, filter, insert, range_with_len}
use Rattle.std.specs.List.Sorted.{IsBinarySearchResult, IsNonDecreasingBy}
use Rattle.std.specs.Ordering.{int_eq, ordering_index}
use Rattle.std.proofs.lemmas.Bool.{cases_lt, or_left, or_right}
use Rattle.std.proofs.lemmas.Int.{ints}
use Rattle.std.proofs.lemmas.List.{get_or-map, get_or_default, length-map}
use Rattle.std.proofs.lemmas.List.Edits.{get_or-insert_above, get_or-insert_at, get_or-insert_below, length-insert}
use Rattle.std.proofs.lemmas.List.Elements.{All-contains, Contains-append_cases, Contains-append_right, Contains-get_or}
use Rattle.std.proofs.lemmas.List.Folds.{list_any-append}
use Rattle.std.proofs.lemmas.List.Sorted.{Contains-permutation, IsPermutation-insert, IsPermutation-sym, searched}
use Rattle.table_rules.specs.Objects.{Obj}
use Rattle.sky_row.specs.Columns.{AreAscending, no_row}
use Rattle.chunk_store.proofs.ChunkBlocks.{no_fall}
use Rattle.lane_filter.specs.Tests.{places_of}
use Rattle.value_rules.specs.Truth.{is_one_of}
use Rattle.chunk_filter.specs.Ids.{AreWanted, HasNoRow, IsInserted, IsWantedAt}

-- ---- strictly ascending numbers

abbrev Up : List ℕ → Type 0
Up xs = AllPairs (λ a b. a < b) xs

-- one of two is lower, or they are equal
order : (a b : ℕ) → (a < b) ⊎ ((a ≡ b) ⊎ (b < a))
order a b = grind arith

-- after the place of an insertion each number is one place further on
above_at : (xs : List ℕ) (i y d k : ℕ) → i < k → i ≤ length xs → get_or (insert xs i y) k d ≡ get_or xs (k - 1) d
above_at xs i y d k above le =
    let back : (k - 1) + 1 ≡ k = omega (arith, above) in
    subst (λ m. get_or (insert xs i y) m d ≡ get_or xs (k - 1) d) back (get_or-insert_above xs i y d (k - 1) (omega (arith, above)) le)

-- numbers with one more, between the lower and the higher ones, ascend
insert_up : (xs : List ℕ) (at n : ℕ) → Up xs → at ≤ length xs → ((k : ℕ) → k < at → get_or xs k 0 < n) → ((k : ℕ) → at ≤ k → k < length xs → n < get_or xs k 0)
    → Up (insert xs at n)
insert_up xs at n up le below above i j d less within = by (order i at) (order j at)
  where
    short : j < length xs + 1
    short = omega (arith, within, length-insert xs at n le)

    lower : (k : ℕ) → k < at → get_or xs k d < n
    lower k low = subst (λ v. v < n) (get_or_default xs k 0 d (omega (arith, low, le))) (below k low)

    higher : (k : ℕ) → at ≤ k → k < length xs → n < get_or xs k d
    higher k from low = subst (λ v. n < v) (get_or_default xs k 0 d low) (above k from low)

    here : (k : ℕ) → k ≡ at → get_or (insert xs at n) k d ≡ n
    here k is = ap (λ m. get_or (insert xs at n) m d) is ∙ get_or-insert_at xs at n d le

    by : (i < at) ⊎ ((i ≡ at) ⊎ (at < i)) → (j < at) ⊎ ((j ≡ at) ⊎ (at < j)) → get_or (insert xs at n) i d < get_or (insert xs at n) j d
    by (inl il) (inl jl) = rw (get_or-insert_below xs at n d i il le, get_or-insert_below xs at n d j jl le) (up i j d less (omega (arith, jl, le)))
    by (inl il) (inr (inl js)) = rw (get_or-insert_below xs at n d i il le, here j js) (lower i il)
    by (inl il) (inr (inr jh)) = rw (get_or-insert_below xs at n d i il le, above_at xs at n d j jh le) (up i (j - 1) d (omega (arith, il, jh)) (omega (arith, short, jh)))
    by (inr (inl is)) (inl jl) = absurd (omega (arith, is, jl, less))
    by (inr (inl is)) (inr (inl js)) = absurd (omega (arith, is, js, less))
    by (inr (inl is)) (inr (inr jh)) = rw (here i is, above_at xs at n d j jh le) (higher (j - 1) (omega (arith, jh)) (omega (arith, short, jh)))
    by (inr (inr ih)) (inl jl) = absurd (omega (arith, ih, jl, less))
    by (inr (inr ih)) (inr (inl js)) = absurd (omega (arith, ih, js, less))
    by (inr (inr ih)) (inr (inr jh)) = rw (above_at xs at n d i ih le, above_at xs at n d j jh le) (up (i - 1) (j - 1) d (omega (arith, ih, less)) (omega (arith, short, jh)))

-- a number that is among them already
pub inserted_there : (old : List ℕ) (n at : ℕ) → IsBinarySearchResult (λ y. nat_cmp y n) old (Ok at) → Up old → IsInserted n old old
inserted_there old n at found up =
    let is = searched old n (Ok at) found (no_fall old up) in
    record {
      up = up;
      has = subst (Contains old) is.1 (Contains-get_or old at 0 is.0);
      kept = λ k has. has;
      only = λ k has. inr has;
    }

-- a number that is not
pub inserted_new : (old new : List ℕ) (n at : ℕ) → IsBinarySearchResult (λ y. nat_cmp y n) old (Err at) → new ≡ insert old at n → Up old → IsInserted n old new
inserted_new old new n at found is up =
    let gap = searched old n (Err at) found (no_fall old up) in
    subst (IsInserted n old) (sym is) (record {
      up = insert_up old at n up gap.0 gap.1 gap.2;
      has = Contains-permutation (n ∷ old) (insert old at n) n (IsPermutation-insert old at n) (0, omega arith, refl);
      kept = λ k has. Contains-permutation (n ∷ old) (insert old at n) k (IsPermutation-insert old at n) (Contains-append_right (n ∷ []) old k has);
      only = λ k has.
          first k (Contains-append_cases (n ∷ []) old k (Contains-permutation (insert old at n) (n ∷ old) k (IsPermutation-sym (n ∷ old) (insert old at n) (IsPermutation-insert old at n)) has));
    })
  where
    alone : (k i : ℕ) → i < 1 → get_or (n ∷ []) i k ≡ k → k ≡ n
    alone k zero low is = sym is
    alone k (suc i) low is = absurd (omega (arith, low))

    first : (k : ℕ) → Contains (n ∷ []) k ⊎ Contains old k → (k ≡ n) ⊎ Contains old k
    first k (inl has) = inl (alone k has.0 has.1 has.2)
    first k (inr has) = inr has

-- ---- strictly ascending numbers are those of a range that pass a test

fits_tail : (x : ℕ) (xs : List ℕ) → Up (x ∷ xs) → Up xs
fits_tail x xs up = λ i j d less within. up (suc i) (suc j) d (omega (arith, less)) (omega (arith, within))

-- they are in the range from a, pass, and are all that pass
abbrev Fill : (ℕ → Bool) → ℕ → ℕ → List ℕ → Type 0
Fill p a n xs = All (λ x. (a ≤ x) × (x < a + n) × (p x ≡ true)) xs × ((k : ℕ) → a ≤ k → k < a + n → p k ≡ true → Contains xs k)

out_of : (p : ℕ → Bool) (a x : ℕ) → p a ≡ false → a ≤ x → p x ≡ true → a + 1 ≤ x
out_of p a x fails from is = which (order a x)
  where
    which : (a < x) ⊎ ((a ≡ x) ⊎ (x < a)) → a + 1 ≤ x
    which (inl less) = omega (arith, less)
    which (inr (inl same)) = absurd (let e : true ≡ false = sym is ∙ (ap p (sym same) ∙ fails) in cc)
    which (inr (inr more)) = absurd (omega (arith, more, from))

first_is : (a x : ℕ) (xs : List ℕ) → Up (x ∷ xs) → a ≤ x → (i : ℕ) → i < length (x ∷ xs) → get_or (x ∷ xs) i a ≡ a → x ≡ a
first_is a x xs up from zero low is = is
first_is a x xs up from (suc i) low is = absurd (omega (arith, up 0 (suc i) a (omega arith) low, is, from))

behind : (x k : ℕ) (xs : List ℕ) → x < k → (i : ℕ) → i < length (x ∷ xs) → get_or (x ∷ xs) i k ≡ k → Contains xs k
behind x k xs less zero low is = absurd (omega (arith, is, less))
behind x k xs less (suc i) low is = (i, omega (arith, low), is)

fill_step : (p : ℕ → Bool) (a n : ℕ) → ((ys : List ℕ) → Up ys → Fill p (a + 1) n ys → ys ≡ filter p (range_with_len (a + 1) n))
    → (b : Bool) → p a ≡ b → (xs : List ℕ) → Up xs → Fill p a (suc n) xs → xs ≡ filter p (range_with_len a (suc n))
fill_step p a n further true holds [] up fill =
    let has = fill.1 a (omega arith) (omega arith) holds in
    absurd (omega (arith, has.1))
fill_step p a n further true holds (x ∷ xs) up fill =
    let has = fill.1 a (omega arith) (omega arith) holds in
    let h = fill.0 0 x (omega arith) in
    let is : x ≡ a = first_is a x xs up h.0 has.0 has.1 has.2 in
    let rest : xs ≡ filter p (range_with_len (a + 1) n) =
    further xs (fits_tail x xs up) (
      (λ i d low.
          let g = fill.0 (suc i) d (omega (arith, low)) in
          let less = up 0 (suc i) d (omega arith) (omega (arith, low)) in
          (omega (arith, less, is), omega (arith, g.1), g.2)),
      λ k from below pass.
          let own = fill.1 k (omega (arith, from)) (omega (arith, below)) pass in
          behind x k xs (omega (arith, is, from)) own.0 own.1 own.2,
    )
    in
    rw (holds, is, rest) refl
fill_step p a n further false fails xs up fill =
    let rest : xs ≡ filter p (range_with_len (a + 1) n) =
    further xs up (
      (λ i d low.
          let g = fill.0 i d low in
          (out_of p a (get_or xs i d) fails g.0 g.2, omega (arith, g.1), g.2)),
      λ k from below pass. fill.1 k (omega (arith, from)) (omega (arith, below)) pass,
    )
    in
    rw fails rest

-- each of them is in the range and passes, and each number of the range that passes is among them
pub ascending_are : (p : ℕ → Bool) (a n : ℕ) (xs : List ℕ) → Up xs → Fill p a n xs → xs ≡ filter p (range_with_len a n)
ascending_are p a zero [] up fill = refl
ascending_are p a zero (x ∷ xs) up fill =
    let h = fill.0 0 x (omega arith) in
    absurd (omega (arith, h.0, h.1))
ascending_are p a (suc n) xs up fill = fill_step p a n (λ ys. ascending_are p (a + 1) n ys) (p a) refl xs up fill

-- ---- ids, one after the other

-- no id is wanted before the first
pub wanted_none : (ids : List ℤ) → AreWanted ids [] []
wanted_none ids = record {
  up = λ i j d less within. absurd (omega (arith, within));
  have = λ i d within. absurd (omega (arith, within));
  all = λ k has. absurd (let h = has.1 in cc);
}

-- an id is one of the wanted ones and one more
either_of : (wanted : List ℤ) (id z : ℤ) → is_one_of (wanted ++ id ∷ []) z ≡ (is_one_of wanted z || (int_eq id z || false))
either_of wanted id z = list_any-append (λ n. int_eq n z) wanted (id ∷ [])

equal_is : (id z : ℤ) → (int_eq id z || false) ≡ true → z ≡ id
equal_is id z h = grind (arith, ints)

is_equal : (id z : ℤ) → z ≡ id → (int_eq id z || false) ≡ true
is_equal id z h = grind (arith, ints)

split : (p q : Bool) → (p || q) ≡ true → (p ≡ true) ⊎ (q ≡ true)
split true q h = inl refl
split false q h = inr h

still_wanted : (ids wanted : List ℤ) (id : ℤ) (k : ℕ) → IsWantedAt ids wanted k → IsWantedAt ids (wanted ++ id ∷ []) k
still_wanted ids wanted id k has =
    (has.0, either_of wanted id (get_or ids k (pos 0)) ∙ or_left (is_one_of wanted (get_or ids k (pos 0))) (int_eq id (get_or ids k (pos 0)) || false) has.1)

-- what is wanted with one id more was wanted before, or it has that id
wanted_before : (ids wanted : List ℤ) (id : ℤ) (k : ℕ) → IsWantedAt ids (wanted ++ id ∷ []) k → IsWantedAt ids wanted k ⊎ (get_or ids k (pos 0) ≡ id)
wanted_before ids wanted id k has =
    by (split (is_one_of wanted (get_or ids k (pos 0))) (int_eq id (get_or ids k (pos 0)) || false) (sym (either_of wanted id (get_or ids k (pos 0))) ∙ has.1))
  where
    by : (is_one_of wanted (get_or ids k (pos 0)) ≡ true) ⊎ ((int_eq id (get_or ids k (pos 0)) || false) ≡ true)
        → IsWantedAt ids wanted k ⊎ (get_or ids k (pos 0) ≡ id)
    by (inl h) = inl (has.0, h)
    by (inr h) = inr (equal_is id (get_or ids k (pos 0)) h)

-- an id that no row has
pub none_more : (ids wanted : List ℤ) (id : ℤ) (places : List ℕ) → ((k : ℕ) → k < length ids → get_or ids k (pos 0) ≡ id → ⊥) → AreWanted ids wanted places
    → AreWanted ids (wanted ++ id ∷ []) places
none_more ids wanted id places none h = record {
  up = h.up;
  have = λ i d within. still_wanted ids wanted id (get_or places i d) (h.have i d within);
  all = λ k has. by k has (wanted_before ids wanted id k has);
}
  where
    by : (k : ℕ) → IsWantedAt ids (wanted ++ id ∷ []) k → IsWantedAt ids wanted k ⊎ (get_or ids k (pos 0) ≡ id) → Contains places k
    by k has (inl old) = h.all k old
    by k has (inr is) = absurd (none k has.0 is)

apart : (x y : ℤ) → x ≡ y → x <ℤ y → ⊥
apart x y same less = grind (arith, ints)

-- rows of one id are one row
one_row : (ids : List ℤ) (i j : ℕ) → AreAscending ids → i < length ids → j < length ids → get_or ids i (pos 0) ≡ get_or ids j (pos 0) → i ≡ j
one_row ids i j up low high same = by (order i j)
  where
    by : (i < j) ⊎ ((i ≡ j) ⊎ (j < i)) → i ≡ j
    by (inl less) = absurd (apart _ _ same (up i j (pos 0) less high))
    by (inr (inl is)) = is
    by (inr (inr less)) = absurd (apart _ _ (sym same) (up j i (pos 0) less low))

-- an id that a row has
pub one_more : (ids wanted : List ℤ) (id : ℤ) (row put : ℕ) (old new : List ℕ) → AreAscending ids → row < length ids → get_or ids row (pos 0) ≡ id
    → (Up old → IsInserted put old new) → put ≡ row → AreWanted ids wanted old → AreWanted ids (wanted ++ id ∷ []) new
one_more ids wanted id row put old new up there is insertion same_row h = record {
  up = (inserted h.up).up;
  have = λ i d within. fits (get_or new i d) ((inserted h.up).only (get_or new i d) (Contains-get_or new i d within));
  all = λ k has. by k has (wanted_before ids wanted id k has);
}
  where
    inserted : Up old → IsInserted row old new
    inserted low = subst (λ n. IsInserted n old new) same_row (insertion low)

    own : IsWantedAt ids (wanted ++ id ∷ []) row
    own = (there, either_of wanted id (get_or ids row (pos 0)) ∙ or_right (is_one_of wanted (get_or ids row (pos 0))) (int_eq id (get_or ids row (pos 0)) || false) (is_equal id (get_or ids row (pos 0)) is))

    fits : (k : ℕ) → (k ≡ row) ⊎ Contains old k → IsWantedAt ids (wanted ++ id ∷ []) k
    fits k (inl same) = subst (IsWantedAt ids (wanted ++ id ∷ [])) (sym same) own
    fits k (inr has) = still_wanted ids wanted id k (All-contains (IsWantedAt ids wanted) old k h.have has)

    by : (k : ℕ) → IsWantedAt ids (wanted ++ id ∷ []) k → IsWantedAt ids wanted k ⊎ (get_or ids k (pos 0) ≡ id) → Contains new k
    by k has (inl before) = (inserted h.up).kept k (h.all k before)
    by k has (inr same) = subst (Contains new) (one_row ids row k up there has.0 (is ∙ sym same)) (inserted h.up).has

-- at the end they are the rows whose id is wanted
pub wanted_rows : (ids wanted : List ℤ) (places : List ℕ) → AreWanted ids wanted places → places ≡ places_of (map (is_one_of wanted) ids)
wanted_rows ids wanted places h =
    ascending_are test 0 (length mask) places h.up (
      (λ i d within.
          let has = h.have i d within in
          (omega arith, omega (arith, has.0, long), sym (at (get_or places i d) has.0) ∙ has.1)),
      λ k from below pass. h.all k (omega (arith, below, long), at k (omega (arith, below, long)) ∙ pass),
    )
  where
    mask : List Bool
    mask = map (is_one_of wanted) ids

    test : ℕ → Bool
    test k = get_or mask k false

    long : length mask ≡ length ids
    long = length-map ids (is_one_of wanted)

    at : (k : ℕ) → k < length ids → is_one_of wanted (get_or ids k (pos 0)) ≡ test k
    at k low = sym (get_or-map (is_one_of wanted) ids k (pos 0) false low)

-- ---- what a bisection says of ids that ascend

lower : (x y : ℤ) → int_cmp x y ≡ Less → x <ℤ y
lower x y h = grind (arith, ints)

higher : (x y : ℤ) → int_cmp x y ≡ Greater → y <ℤ x
higher x y h = grind (arith, ints)

equal : (x y : ℤ) → int_cmp x y ≡ Equal → x ≡ y
equal x y h = grind (arith, ints)

compared : (x y id : ℤ) → x <ℤ y → ordering_index (int_cmp x id) ≤ ordering_index (int_cmp y id)
compared x y id low = grind (arith, ints)

rises : (ids : List ℤ) (id : ℤ) → AreAscending ids → IsNonDecreasingBy (λ z. ordering_index (int_cmp z id)) ids
rises ids id up i j d le within = by (first i j le)
  where
    first : (i j : ℕ) → i ≤ j → (i < j) ⊎ (i ≡ j)
    first i j le = grind arith

    by : (i < j) ⊎ (i ≡ j) → ordering_index (int_cmp (get_or ids i d) id) ≤ ordering_index (int_cmp (get_or ids j d) id)
    by (inl less) = compared _ _ id (up i j d less within)
    by (inr is) = subst (λ k. ordering_index (int_cmp (get_or ids i d) id) ≤ ordering_index (int_cmp (get_or ids k d) id)) is (omega arith)

-- an id that is not found is that of no row
pub missing : (ids : List ℤ) (id : ℤ) (i : ℕ) → AreAscending ids → IsBinarySearchResult (λ z. int_cmp z id) ids (Err i)
    → (k : ℕ) → k < length ids → get_or ids k (pos 0) ≡ id → ⊥
missing ids id i up h k within is = by (cases_lt k i)
  where
    by : (k < i) ⊎ (i ≤ k) → ⊥
    by (inl less) = apart _ _ is (lower _ id ((h (rises ids id up)).0 k (pos 0) (omega arith) less))
    by (inr from) = apart _ _ (sym is) (higher _ id ((h (rises ids id up)).1 k (pos 0) from within))

-- an id that is found is that of the row
pub found_there : (ids : List ℤ) (id : ℤ) (row : ℕ) → ((d : ℤ) → int_cmp (get_or ids row d) id ≡ Equal) → get_or ids row (pos 0) ≡ id
found_there ids id row h = equal (get_or ids row (pos 0)) id (h (pos 0))

-- no row has an id that no object has
pub none_of : (objects : List Obj) (ids : List ℤ) (id : ℤ) → ids ≡ map (λ o. o.id) objects → All (λ o. o.id ≢ id) objects → HasNoRow ids id
none_of objects ids id is none k within same =
    let low : k < length objects = omega (arith, within, ap length is, length-map objects (λ o. o.id)) in
    none k no_row low (sym (get_or-map (λ o. o.id) objects k no_row (pos 0) low) ∙ (sym (ap (λ l. get_or l k (pos 0)) is) ∙ same))

-- what follows from what holds after a success holds after it
pub on_ok_then : {A E P Q : Type 0} (r : Result A E) → OnOk r P → (P → Q) → OnOk r Q
on_ok_then (Ok a) h f = f h
on_ok_then (Err e) h f = tt

pub if_ok_then : {A E : Type 0} {P Q : A → Type 0} (r : Result A E) → IfOk r P → ((a : A) → P a → Q a) → IfOk r Q
if_ok_then (Ok a) h f = f a h
if_ok_then (Err e) h f = tt
