-- Columns that are gathered in parts.
use Rattle.std.proofs.Common.{◌≡◌, ◌∙◌, sym, refl, ap, ℕ, ◌+◌, ◌≤◌, ◌<◌, arith, Bool, true, false, List, [], ◌∷◌, ◌++◌, length, map, replicate, Option, Some, None, ℤ, pos, get_or, ◌⊎◌, subst, Result, Ok, Err, take, set}
use mathlib.Core.Logic.{inl, inr}
use Rattle.std.specs.Prelude.{All, OnErr, OnOk}
use Rattle.std.specs.Option.{is_some}
use Rattle.std.proofs.lemmas.List.{length-map, get_or-map, get_or_append_left, get_or_push, get_or_past, length_push, length-replicate, get_or-replicate, same_lists, get_or_default, length-take, get_or-take, get_or-set_same, get_or-set_other}
use Rattle.column_lists.specs.Columns.{AreAligned, IsFront, Parts, cell_at, cells_of, no_rows, or_zero, rows_at, GathersUpTo, IsGathered, IsKept}
use Rattle.column_lists.specs.Filling.{AreBegun, AreFilled, IsFilled, IsPresenceUpTo}
use Rattle.column_lists.proofs.Gathering.{front_same, parts_same}
use Rattle.column_lists.proofs.Presence.{cell_is, count, gathered_is, numbers_are, some_by}

-- a list with a `true` more tells of each place what it told
pub push_true : (found : List Bool) (j : ℕ) → get_or (found ++ true ∷ []) j true ≡ get_or found j true
push_true found j = by (compare)
  where
    compare : (j < length found) ⊎ ((length found ≡ j) ⊎ (length found < j))
    compare = grind arith

    by : (j < length found) ⊎ ((length found ≡ j) ⊎ (length found < j)) → get_or (found ++ true ∷ []) j true ≡ get_or found j true
    by (inl low) = get_or_append_left found (true ∷ []) true j low
    by (inr (inl here)) = get_or_push found true true j here ∙ sym (get_or_past found j true (omega (arith, here)))
    by (inr (inr past)) = get_or_past (found ++ true ∷ []) j true (omega (arith, past, length_push found true)) ∙ sym (get_or_past found j true (omega (arith, past)))

-- a presence is of no more rows than there are
pub no_more : (found : List Bool) (n : ℕ) → (found ≡ []) ⊎ (length found ≡ n) → length found ≤ n
no_more found n (inl none) = omega (arith, ap length none)
no_more found n (inr same) = omega (arith, same)

-- the cell at a place, where the first cells are gathered
cell_filled : (n : ℕ) (values found : List ℤ) (present has : List Bool) (places : List ℕ) → All (λ place. place < length values) places → n ≤ length places
    → IsFilled n (cells_of values present) places (cells_of found has) → (k : ℕ) → k < n → cell_at found has k ≡ cell_at values present (get_or places k 0)
cell_filled n values found present has places there few so_far k low =
    let long : k < length found = omega (arith, low, so_far.count, count found has) in
    let at : get_or places k 0 < length values = there k 0 (omega (arith, low, few)) in
    sym (cell_is found has k None long) ∙ (so_far.each k None low ∙ cell_is values present (get_or places k 0) None at)

-- where the cells are gathered so far, the numbers are
pub values_filled : (n : ℕ) (values found : List ℤ) (present has : List Bool) (places : List ℕ) → IsKept values present → IsKept found has
    → All (λ place. place < length values) places → n ≤ length places
    → IsFilled n (cells_of values present) places (cells_of found has) → IsFilled n values places found
values_filled n values found present has places kept own there few so_far = record {
  count = sym (count found has) ∙ so_far.count;
  each = λ k d low.
      let long : k < length found = omega (arith, low, so_far.count, count found has) in
      let at : get_or places k 0 < length values = there k 0 (omega (arith, low, few)) in
      number found has own k d long
      ∙ (ap or_zero (cell_filled n values found present has places there few so_far k low)
      ∙ sym (number values present kept (get_or places k 0) d at));
}
  where
    number : (values : List ℤ) (present : List Bool) → IsKept values present → (k : ℕ) (d : ℤ) → k < length values → get_or values k d ≡ or_zero (cell_at values present k)
    number values present kept k d low =
        ap (λ l. get_or l k d) (numbers_are values present kept)
        ∙ (get_or-map or_zero (cells_of values present) k None d (omega (arith, low, count values present)) ∙ ap or_zero (cell_is values present k None low))

-- and so is the presence
pub presence_filled : (n : ℕ) (values found : List ℤ) (present has : List Bool) (places : List ℕ) → IsKept found has
    → All (λ place. place < length values) places → n ≤ length places
    → IsFilled n (cells_of values present) places (cells_of found has) → IsPresenceUpTo n present places has
presence_filled n values found present has places own there few so_far = record {
  presence = by own.presence;
  each = λ k low.
      some_by (get_or found k (pos 0)) (get_or has k true)
      ∙ (ap is_some (cell_filled n values found present has places there few so_far k low)
      ∙ sym (some_by (get_or values (get_or places k 0) (pos 0)) (get_or present (get_or places k 0) true)));
}
  where
    by : (has ≡ []) ⊎ (length has ≡ length found) → (has ≡ []) ⊎ (length has ≡ n)
    by (inl none) = inl none
    by (inr same) = inr (same ∙ (sym (count found has) ∙ so_far.count))

-- numbers and presence that are gathered are so as cells
pub cells_filled : (n : ℕ) (values found : List ℤ) (present has : List Bool) (places : List ℕ)
    → All (λ place. place < length values) places → n ≤ length places
    → IsFilled n values places found → IsPresenceUpTo n present places has → IsFilled n (cells_of values present) places (cells_of found has)
cells_filled n values found present has places there few is shown = record {
  count = count found has ∙ is.count;
  each = λ k d low.
      let long : k < length found = omega (arith, low, is.count) in
      let at : get_or places k 0 < length values = there k 0 (omega (arith, low, few)) in
      cell_is found has k d long
      ∙ (rw (is.each k (pos 0) low, shown.each k low) refl
      ∙ sym (cell_is values present (get_or places k 0) d at));
}

-- and they are kept as those of the table are
pub kept_filled : (n : ℕ) (values found : List ℤ) (present has : List Bool) (places : List ℕ) → IsKept values present
    → IsFilled n values places found → IsPresenceUpTo n present places has → IsKept found has
kept_filled n values found present has places kept is shown = record {
  presence = presence shown.presence;
  zero = λ i off. zero_of i off (compare i);
}
  where
    presence : (has ≡ []) ⊎ (length has ≡ n) → (has ≡ []) ⊎ (length has ≡ length found)
    presence (inl none) = inl none
    presence (inr same) = inr (same ∙ sym is.count)

    compare : (i : ℕ) → (i < n) ⊎ (n ≤ i)
    compare i = grind arith

    zero_of : (i : ℕ) → get_or has i true ≡ false → (i < n) ⊎ (n ≤ i) → get_or found i (pos 0) ≡ pos 0
    zero_of i off (inl low) = is.each i (pos 0) low ∙ kept.zero (get_or places i 0) (sym (shown.each i low) ∙ off)
    zero_of i off (inr high) = get_or_past found i (pos 0) (omega (arith, high, is.count))

-- no presence is kept on where each of the next rows has a value
pub still_whole : (from n : ℕ) (present has : List Bool) (places : List ℕ) → has ≡ [] → IsPresenceUpTo from present places has
    → ((k : ℕ) → from ≤ k → k < n → get_or present (get_or places k 0) true ≡ true) → IsPresenceUpTo n present places has
still_whole from n present has places none so_far whole = record {
  presence = inl none;
  each = λ k low. by k low (compare k);
}
  where
    compare : (k : ℕ) → (k < from) ⊎ (from ≤ k)
    compare k = grind arith

    by : (k : ℕ) → k < n → (k < from) ⊎ (from ≤ k) → get_or has k true ≡ get_or present (get_or places k 0) true
    by k low (inl before) = so_far.each k before
    by k low (inr behind) = ap (λ l. get_or l k true) none ∙ sym (whole k behind low)

-- a column that has the first cells of a table's, as it is kept
pub begun_cells : (values found : List ℤ) (present has : List Bool) (places : List ℕ) (table own : List (Option ℤ))
    → cells_of values present ≡ table → cells_of found has ≡ own → IsFilled (length own) table places own
    → IsFilled (length found) (cells_of values present) places (cells_of found has)
begun_cells values found present has places table own whole is so_far =
    subst (λ n. IsFilled n (cells_of values present) places (cells_of found has)) (count found has)
    (subst (λ t. IsFilled (length (cells_of found has)) t places (cells_of found has)) (sym whole)
    (subst (λ o. IsFilled (length o) table places o) (sym is) so_far))

-- what is gathered of numbers and presence, or nothing for want of memory, is gathered of cells
pub filled_or_not : {A E : Type 0} (r : Result A E) (n : ℕ) (values found : List ℤ) (present has : List Bool) (places : List ℕ) (table : List (Option ℤ))
    → cells_of values present ≡ table → All (λ place. place < length values) places → n ≤ length places
    → OnOk r (IsFilled n values places found) → OnOk r (IsPresenceUpTo n present places has) → OnOk r (IsFilled n table places (cells_of found has))
filled_or_not {A} {E} (Err e) n values found present has places table whole there few is shown = tt
filled_or_not {A} {E} (Ok a) n values found present has places table whole there few is shown =
    subst (λ t. IsFilled n t places (cells_of found has)) whole (cells_filled n values found present has places there few is shown)

-- ---- all columns of rows

-- nothing is filled at first
none_filled : {X : Type 0} (values found : List X) (places : List ℕ) → found ≡ [] → IsFilled 0 values places found
none_filled values found places none = record { count = ap length none; each = λ k d low. absurd (omega (arith, low)) }

-- columns over no row have the first rows, none of them
pub none_begun : (table : Parts) (places : List ℕ) (p : Parts) (width : ℕ) → width ≡ length table.further → p ≡ no_rows width → AreBegun table places p
none_begun table places p width wide is =
    subst (AreBegun table places) (sym is) (record {
      few = omega arith;
      filled = record {
        ids = none_filled table.ids [] places refl;
        xs = none_filled table.xs [] places refl;
        ys = none_filled table.ys [] places refl;
        zs = none_filled table.zs [] places refl;
        wide = length-replicate width [] ∙ wide;
        further = λ j low. none_filled (get_or table.further j []) (get_or (replicate width []) j []) places (get_or-replicate width j [] [] (omega (arith, low, wide)));
      };
    })

-- what has the rows at the first places has been begun with them
pub filled_begun : (n : ℕ) (table : Parts) (places : List ℕ) (p : Parts) → n ≤ length places → AreFilled n table places p → AreBegun table places p
filled_begun n table places p few are = record {
  few = omega (arith, few, are.ids.count);
  filled = subst (λ n. AreFilled n table places p) (sym are.ids.count) are;
}

all_filled : {X : Type 0} (values found : List X) (places : List ℕ) (e : X) → IsFilled (length places) values places found → found ≡ map (λ place. get_or values place e) places
all_filled values found places e is = gathered_is values places found e (record { count = is.count; each = is.each })

-- columns that have the rows at all of the places are the columns of these rows
pub filled_whole : (table p : Parts) (places : List ℕ) → AreFilled (length places) table places p → p ≡ rows_at table places
filled_whole table p places are =
    parts_same p (rows_at table places) (all_filled table.ids p.ids places (pos 0) are.ids) (all_filled table.xs p.xs places (pos 0) are.xs)
    (all_filled table.ys p.ys places (pos 0) are.ys) (all_filled table.zs p.zs places (pos 0) are.zs)
    (same_lists p.further (map at table.further) (are.wide ∙ sym (length-map table.further at))
    (λ j d low.
    let there : j < length table.further = omega (arith, low, are.wide) in
    get_or_default p.further j d [] low
    ∙ (all_filled (get_or table.further j []) (get_or p.further j []) places None (are.further j there)
    ∙ sym (get_or-map at table.further j [] d there))))
  where
    at : List (Option ℤ) → List (Option ℤ)
    at column = map (λ place. get_or column place None) places

-- ---- for want of memory

-- a list that is filled further begins as it did
pub filled_front : {X : Type 0} (n m : ℕ) (values old new : List X) (places : List ℕ) → n ≤ m → IsFilled n values places old → IsFilled m values places new → IsFront old new
filled_front n m values old new places up so_far is =
    let long = length-take (length old) new in
    same_lists (take (length old) new) old (omega (arith, long, so_far.count, is.count, up))
    (λ k d low.
    let within : k < length old = omega (arith, low, long) in
    let there : k < n = omega (arith, within, so_far.count) in
    get_or-take (length old) new k d within ∙ (is.each k d (omega (arith, there, up)) ∙ sym (so_far.each k d there)))

-- whether it was filled further, or is as it was for want of memory
pub front_or_same : {X A E : Type 0} (r : Result A E) (n m : ℕ) (values old new : List X) (places : List ℕ) → n ≤ m → IsFilled n values places old
    → OnOk r (IsFilled m values places new) → OnErr r (new ≡ old) → IsFront old new
front_or_same {X} {A} {E} (Ok a) n m values old new places up so_far is same = filled_front n m values old new places up so_far is
front_or_same {X} {A} {E} (Err e) n m values old new places up so_far is same = front_same old new same

-- cells are the same where numbers and presence are
pub same_cells : {A E : Type 0} (r : Result A E) (values found : List ℤ) (present has : List Bool) (own : List (Option ℤ)) → cells_of values present ≡ own
    → OnErr r (found ≡ values) → OnErr r (has ≡ present) → OnErr r (cells_of found has ≡ own)
same_cells {A} {E} (Ok a) values found present has own is numbers presence = tt
same_cells {A} {E} (Err e) values found present has own is numbers presence =
    ap (λ v. cells_of v has) numbers ∙ (ap (cells_of values) presence ∙ is)

-- columns of which the first are filled further, one maybe, and the others not
pub fronts_so_far : (old now : List (List (Option ℤ))) (i k : ℕ) (column : List (Option ℤ)) → i < length now
    → ((j : ℕ) → j < i → IsFront (get_or old j []) (get_or now j [])) → ((j : ℕ) → i ≤ j → get_or now j [] ≡ get_or old j [])
    → IsFront (get_or now i []) column → IsFront (get_or old k []) (get_or (set now i column) k [])
fronts_so_far old now i k column there before rest own = by_place (compare k i)
  where
    compare : (k i : ℕ) → (k < i) ⊎ ((k ≡ i) ⊎ (i < k))
    compare k i = grind arith

    by_place : (k < i) ⊎ ((k ≡ i) ⊎ (i < k)) → IsFront (get_or old k []) (get_or (set now i column) k [])
    by_place (inl low) =
        subst (IsFront (get_or old k [])) (sym (get_or-set_other now i k column [] (λ e. omega (arith, low, e)))) (before k low)
    by_place (inr (inl here)) =
        let e : get_or (set now i column) k [] ≡ column = ap (λ k. get_or (set now i column) k []) here ∙ get_or-set_same now i column [] there in
        let same : get_or now i [] ≡ get_or old k [] = rest i (omega arith) ∙ ap (λ j. get_or old j []) (sym here) in
        rw e (subst (λ l. IsFront l column) same own)
    by_place (inr (inr high)) =
        front_same (get_or old k []) (get_or (set now i column) k [])
        (get_or-set_other now i k column [] (λ e. omega (arith, high, e)) ∙ rest k (omega (arith, high)))

-- columns that have been begun are of one length
pub begun_aligned : (table : Parts) (places : List ℕ) (p : Parts) → AreBegun table places p → AreAligned p
begun_aligned table places p is = record {
  xs = is.filled.xs.count;
  ys = is.filled.ys.count;
  zs = is.filled.zs.count;
  further = λ k d low. ap length (get_or_default p.further k d [] low) ∙ (is.filled.further k (omega (arith, low, is.filled.wide))).count;
}
