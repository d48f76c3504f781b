-- Columns with the rows of another table appended.
use Rattle.std.proofs.Common.{◌≡◌, ◌∙◌, sym, refl, ap, subst, ℕ, ◌+◌, ◌-◌, ◌≤◌, ◌<◌, arith, suc, zero, ◌⊎◌, Bool, true, false, List, [], ◌∷◌, ◌++◌, length, drop, Option, None, ℤ, pos, get_or}
use mathlib.Core.Logic.{inl, inr}
use Rattle.std.proofs.lemmas.List.{append-nil, length-append, length-map, get_or-map, same_lists, get_or_append_left, get_or-append_right, get_or_default, drop_more}
use Rattle.std.proofs.Math.Seq.{append_snoc}
use Rattle.table_rules.specs.Objects.{Obj, IsRow}
use Rattle.column_lists.specs.Columns.{Parts, AreAligned, AreRows, IsKept, IsPresenceOfBoth, cell_at, cells_in, cells_of, columns_appended, objects_of, row_at, rows_appended}
use Rattle.column_lists.proofs.Presence.{cell_is, count}
use Rattle.column_lists.proofs.Rowed.{obj_same, object_at, objects_count}

-- a value of the second of two lists
behind_at : {X : Type 0} (xs ys : List X) (k : ℕ) (d : X) → get_or (xs ++ ys) (length xs + k) d ≡ get_or ys k d
behind_at xs ys k d =
    let e : length xs + k - length xs ≡ k = omega arith in
    get_or-append_right xs ys (length xs) (length xs + k) d refl (omega arith) ∙ ap (λ n. get_or ys n d) e

-- ---- a presence

-- if none is kept of either, none is kept of both
pub none_of_both : (rows more : ℕ) (present shown : List Bool) → present ≡ [] → shown ≡ [] → IsPresenceOfBoth rows more present shown present
none_of_both rows more present shown none other = record {
  presence = inl none;
  front = λ k low. refl;
  behind = λ k. rw (none, other) refl;
}

-- a presence is of no more rows than there are
pub no_more_rows : (present : List Bool) (rows : ℕ) → (present ≡ []) ⊎ (length present ≡ rows) → length present ≤ rows
no_more_rows present rows (inl none) = omega (arith, ap length none)
no_more_rows present rows (inr same) = omega (arith, same)

-- a presence for each row of both
pub presence_of_both : (rows more : ℕ) (present shown first second found : List Bool) → length first ≡ rows → ((k : ℕ) → get_or first k true ≡ get_or present k true)
    → length second ≡ more → ((k : ℕ) → get_or second k true ≡ get_or shown k true) → found ≡ first ++ second → IsPresenceOfBoth rows more present shown found
presence_of_both rows more present shown first second found full each full2 each2 is = record {
  presence = inr (ap length is ∙ omega (arith, length-append first second, full, full2));
  front = λ k low. ap (λ l. get_or l k true) is ∙ (get_or_append_left first second true k (omega (arith, low, full)) ∙ each k);
  behind = λ k.
      ap (λ l. get_or l (rows + k) true) is
      ∙ (ap (λ n. get_or (first ++ second) (n + k) true) (sym full) ∙ (behind_at first second k true ∙ each2 k));
}

-- ---- a column

abbrev Either : ℕ → ℕ → Type 0
Either i n = (i < n) ⊎ ((k : ℕ) × (i ≡ n + k))

either : (i n : ℕ) → Either i n
either i n = by (compare i n)
  where
    compare : (i n : ℕ) → (i < n) ⊎ (n ≤ i)
    compare i n = grind arith

    by : (i < n) ⊎ (n ≤ i) → Either i n
    by (inl low) = inl low
    by (inr high) = inr (i - n, omega (arith, high))

cell_front : (values more : List ℤ) (present shown found : List Bool) (i : ℕ) → IsPresenceOfBoth (length values) (length more) present shown found → i < length values
    → cell_at (values ++ more) found i ≡ cell_at values present i
cell_front values more present shown found i is low = rw (is.front i low, get_or_append_left values more (pos 0) i low) refl

cell_behind : (values more : List ℤ) (present shown found : List Bool) (k : ℕ) → IsPresenceOfBoth (length values) (length more) present shown found
    → cell_at (values ++ more) found (length values + k) ≡ cell_at more shown k
cell_behind values more present shown found k is = rw (is.behind k, behind_at values more k (pos 0)) refl

-- the values of both columns
pub cells_behind_both : (values more : List ℤ) (present shown found : List Bool) → IsPresenceOfBoth (length values) (length more) present shown found
    → cells_of (values ++ more) found ≡ cells_of values present ++ cells_of more shown
cells_behind_both values more present shown found is =
    let left = count values present in
    let right = count more shown in
    let both = count (values ++ more) found in
    let sum = length-append values more in
    same_lists (cells_of (values ++ more) found) (cells_of values present ++ cells_of more shown)
    (omega (arith, left, right, both, sum, length-append (cells_of values present) (cells_of more shown)))
    (λ i d low. at i d (omega (arith, low, both)) (either i (length values)))
  where
    at : (i : ℕ) (d : Option ℤ) → i < length (values ++ more) → Either i (length values)
        → get_or (cells_of (values ++ more) found) i d ≡ get_or (cells_of values present ++ cells_of more shown) i d
    at i d low (inl front) =
        cell_is (values ++ more) found i d low
        ∙ (cell_front values more present shown found i is front
        ∙ (sym (cell_is values present i d front)
        ∙ sym (get_or_append_left (cells_of values present) (cells_of more shown) d i (omega (arith, front, count values present)))))
    at i d low (inr (k, here)) =
        let there : k < length more = omega (arith, low, here, length-append values more) in
        let place : length (cells_of values present) + k ≡ i = omega (arith, here, count values present) in
        cell_is (values ++ more) found i d low
        ∙ (ap (cell_at (values ++ more) found) here
        ∙ (cell_behind values more present shown found k is
        ∙ (sym (cell_is more shown k d there)
        ∙ (sym (behind_at (cells_of values present) (cells_of more shown) k d)
        ∙ ap (λ n. get_or (cells_of values present ++ cells_of more shown) n d) place))))

-- and they are kept as those were
pub kept_behind : (values more : List ℤ) (present shown found : List Bool) → IsKept values present → IsKept more shown → IsPresenceOfBoth (length values) (length more) present shown found
    → IsKept (values ++ more) found
kept_behind values more present shown found kept other is = record {
  presence = full is.presence;
  zero = λ i off. zero_at i off (either i (length values));
}
  where
    full : (found ≡ []) ⊎ (length found ≡ length values + length more) → (found ≡ []) ⊎ (length found ≡ length (values ++ more))
    full (inl none) = inl none
    full (inr same) = inr (omega (arith, same, length-append values more))

    zero_at : (i : ℕ) → get_or found i true ≡ false → Either i (length values) → get_or (values ++ more) i (pos 0) ≡ pos 0
    zero_at i off (inl low) = get_or_append_left values more (pos 0) i low ∙ kept.zero i (sym (is.front i low) ∙ off)
    zero_at i off (inr (k, here)) =
        ap (λ n. get_or (values ++ more) n (pos 0)) here
        ∙ (behind_at values more k (pos 0) ∙ other.zero k (sym (is.behind k) ∙ (ap (λ n. get_or found n true) (sym here) ∙ off)))

-- ---- extra columns

-- one column for each
pub behind_count : (columns others : List (List (Option ℤ))) → length (columns_appended columns others) ≡ length columns
unfolding columns_appended
behind_count [] others = refl
behind_count (column ∷ columns) [] = refl
behind_count (column ∷ columns) (other ∷ others) = ap suc (behind_count columns others)

pub column_behind : (columns others : List (List (Option ℤ))) (k : ℕ) → length others ≡ length columns → k < length columns
    → get_or (columns_appended columns others) k [] ≡ get_or columns k [] ++ get_or others k []
unfolding columns_appended
column_behind [] others k same low = absurd (omega (arith, low))
column_behind (column ∷ columns) [] k same low = absurd (omega (arith, same))
column_behind (column ∷ columns) (other ∷ others) zero same low = refl
column_behind (column ∷ columns) (other ∷ others) (suc k) same low = column_behind columns others k (omega (arith, same)) (omega (arith, low))

-- one column more has its values appended
pub columns_turned : (found new rest left others whole : List (List (Option ℤ))) (column : List (Option ℤ)) → rest ≡ column ∷ left → length found < length others
    → new ≡ found ++ (column ++ get_or others (length found) []) ∷ [] → found ++ columns_appended rest (drop (length found) others) ≡ whole
    → new ++ columns_appended left (drop (length new) others) ≡ whole
unfolding columns_appended
columns_turned found new rest left others whole column split low is so_far =
    let both = column ++ get_or others (length found) [] in
    let more : length new ≡ length found + 1 = ap length is ∙ length-append found (both ∷ []) in
    let step : columns_appended rest (drop (length found) others) ≡ both ∷ columns_appended left (drop (length found + 1) others) =
    ap (λ l. columns_appended l (drop (length found) others)) split ∙ ap (columns_appended (column ∷ left)) (drop_more others (length found) [] low) in
    ap (λ l. l ++ columns_appended left (drop (length new) others)) is
    ∙ (ap (λ n. (found ++ both ∷ []) ++ columns_appended left (drop n others)) more
    ∙ (append_snoc found both (columns_appended left (drop (length found + 1) others))
    ∙ (ap (λ l. found ++ l) (sym step) ∙ so_far)))

-- all columns have their values appended
pub columns_all : (found rest others whole : List (List (Option ℤ))) → length rest ≡ 0 → found ++ columns_appended rest (drop (length found) others) ≡ whole → found ≡ whole
unfolding columns_appended
columns_all found [] others whole none so_far = sym (append-nil found) ∙ so_far
columns_all found (column ∷ rest) others whole none so_far = absurd (omega (arith, none))

-- an item of a list, by an equal place and another default
pub item_at : {X : Type 0} (xs : List X) (n k : ℕ) (x d : X) → x ≡ get_or xs n x → n ≡ k → k < length xs → x ≡ get_or xs k d
item_at xs n k x d is here low = is ∙ (ap (λ m. get_or xs m x) here ∙ get_or_default xs k x d low)

-- ---- rows

aligned_behind : (p q : Parts) → AreAligned p → AreAligned q → length q.further ≡ length p.further → AreAligned (rows_appended p q)
aligned_behind p q a b wide = record {
  xs = omega (arith, length-append p.xs q.xs, length-append p.ids q.ids, a.xs, b.xs);
  ys = omega (arith, length-append p.ys q.ys, length-append p.ids q.ids, a.ys, b.ys);
  zs = omega (arith, length-append p.zs q.zs, length-append p.ids q.ids, a.zs, b.zs);
  further = λ k d low.
      let there : k < length p.further = omega (arith, low, behind_count p.further q.further) in
      ap length (get_or_default (columns_appended p.further q.further) k d [] low ∙ column_behind p.further q.further k wide there)
      ∙ omega (arith, length-append (get_or p.further k []) (get_or q.further k []), length-append p.ids q.ids, a.further k [] there, b.further k [] (omega (arith, there, wide)));
}

-- the extra values of a row of both
cells_both : (p q : Parts) (own : Parts) (i place : ℕ) → length q.further ≡ length p.further → length own.further ≡ length p.further
    → ((k : ℕ) → k < length p.further → get_or (get_or p.further k [] ++ get_or q.further k []) place None ≡ get_or (get_or own.further k []) i None)
    → cells_in (columns_appended p.further q.further) place ≡ cells_in own.further i
cells_both p q own i place wide same each =
    same_lists (cells_in (columns_appended p.further q.further) place) (cells_in own.further i)
    (length-map (columns_appended p.further q.further) (λ column. get_or column place None) ∙ (behind_count p.further q.further ∙ (sym same ∙ sym (length-map own.further (λ column. get_or column i None)))))
    (λ k d within.
    let high : k < length (columns_appended p.further q.further) = omega (arith, within, length-map (columns_appended p.further q.further) (λ column. get_or column place None)) in
    let there : k < length p.further = omega (arith, high, behind_count p.further q.further) in
    get_or-map (λ column. get_or column place None) (columns_appended p.further q.further) k [] d high
    ∙ (ap (λ column. get_or column place None) (column_behind p.further q.further k wide there)
    ∙ (each k there ∙ sym (get_or-map (λ column. get_or column i None) own.further k [] d (omega (arith, there, same))))))

row_front : (p q : Parts) (i : ℕ) → AreAligned p → length q.further ≡ length p.further → i < length p.ids → row_at (rows_appended p q) i ≡ row_at p i
row_front p q i a wide low =
    obj_same (row_at (rows_appended p q) i) (row_at p i)
    (get_or_append_left p.ids q.ids (pos 0) i low)
    (get_or_append_left p.xs q.xs (pos 0) i (omega (arith, low, a.xs)))
    (get_or_append_left p.ys q.ys (pos 0) i (omega (arith, low, a.ys)))
    (get_or_append_left p.zs q.zs (pos 0) i (omega (arith, low, a.zs)))
    (cells_both p q p i i wide refl (λ k there. get_or_append_left (get_or p.further k []) (get_or q.further k []) None i (omega (arith, low, a.further k [] there))))

-- a value of the second of two lists, by the first's length
behind_many : {X : Type 0} (xs ys : List X) (n k : ℕ) (d : X) → length xs ≡ n → get_or (xs ++ ys) (n + k) d ≡ get_or ys k d
behind_many xs ys n k d same = ap (λ m. get_or (xs ++ ys) (m + k) d) (sym same) ∙ behind_at xs ys k d

row_behind_at : (p q : Parts) (k : ℕ) → AreAligned p → length q.further ≡ length p.further → row_at (rows_appended p q) (length p.ids + k) ≡ row_at q k
row_behind_at p q k a wide =
    obj_same (row_at (rows_appended p q) (length p.ids + k)) (row_at q k)
    (behind_at p.ids q.ids k (pos 0))
    (behind_many p.xs q.xs (length p.ids) k (pos 0) a.xs)
    (behind_many p.ys q.ys (length p.ids) k (pos 0) a.ys)
    (behind_many p.zs q.zs (length p.ids) k (pos 0) a.zs)
    (cells_both p q q k (length p.ids + k) wide wide (λ j there. behind_many (get_or p.further j []) (get_or q.further j []) (length p.ids) k None (a.further j [] there)))

-- the rows are those of both
pub objects_behind : (p q : Parts) → AreAligned p → length q.further ≡ length p.further → objects_of (rows_appended p q) ≡ objects_of p ++ objects_of q
objects_behind p q a wide =
    let both = objects_count (rows_appended p q) in
    let left = objects_count p in
    let right = objects_count q in
    let sum = length-append p.ids q.ids in
    same_lists (objects_of (rows_appended p q)) (objects_of p ++ objects_of q)
    (omega (arith, both, left, right, sum, length-append (objects_of p) (objects_of q)))
    (λ i d low. at i d (omega (arith, low, both)) (either i (length p.ids)))
  where
    at : (i : ℕ) (d : Obj) → i < length (p.ids ++ q.ids) → Either i (length p.ids) → get_or (objects_of (rows_appended p q)) i d ≡ get_or (objects_of p ++ objects_of q) i d
    at i d low (inl front) =
        object_at (rows_appended p q) i d low
        ∙ (row_front p q i a wide front
        ∙ (sym (object_at p i d front) ∙ sym (get_or_append_left (objects_of p) (objects_of q) d i (omega (arith, front, objects_count p)))))
    at i d low (inr (k, here)) =
        let there : k < length q.ids = omega (arith, low, here, length-append p.ids q.ids) in
        object_at (rows_appended p q) i d low
        ∙ (ap (row_at (rows_appended p q)) here
        ∙ (row_behind_at p q k a wide
        ∙ (sym (object_at q k d there)
        ∙ (sym (behind_many (objects_of p) (objects_of q) (length p.ids) k d (objects_count p)) ∙ ap (λ n. get_or (objects_of p ++ objects_of q) n d) (sym here)))))

pub are_behind : (p q : Parts) → AreRows p → AreRows q → length q.further ≡ length p.further → AreRows (rows_appended p q)
are_behind p q a b wide = record {
  aligned = aligned_behind p q a.aligned b.aligned wide;
  rows = λ i low. at i low (either i (length p.ids));
}
  where
    at : (i : ℕ) → i < length (p.ids ++ q.ids) → Either i (length p.ids) → IsRow (row_at (rows_appended p q) i)
    at i low (inl front) = subst IsRow (sym (row_front p q i a.aligned wide front)) (a.rows i front)
    at i low (inr (k, here)) =
        let there : k < length q.ids = omega (arith, low, here, length-append p.ids q.ids) in
        subst (λ n. IsRow (row_at (rows_appended p q) n)) (sym here) (subst IsRow (sym (row_behind_at p q k a.aligned wide)) (b.rows k there))
