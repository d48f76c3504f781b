-- What a subchunk takes of a strip: the numbers of the rows that are near, and the rows with these numbers.
use Rattle.std.proofs.Common.{◌≡◌, ℕ, zero, suc, ◌+◌, ◌-◌, ◌<◌, ◌≤◌, ℤ, pos, ◌+ℤ◌, ◌-ℤ◌, Bool, true, false, cond, ◌&&◌, List, [], ◌∷◌, ◌++◌, length, get_or, set, slice_range, take, drop, map, filter, refl, sym, ap, subst, ◌∙◌, arith, All}
use Rattle.std.specs.List.{AllByRecursion as Each, range_with_len}
use Rattle.std.proofs.lemmas.List.{append-nil, drop_more, get_or-map, map-id, take_more_set, take-set}
use Rattle.std.proofs.lemmas.List.Elements.{All-map}
use Rattle.std.proofs.lemmas.List.FromFn.{filter_of_map_range_with_len_more}
use Rattle.sky_rules.specs.Bounds.{Bounds, near_bounds, near_sides}
use Rattle.table_rules.specs.Objects.{Obj}
use Rattle.column_lists.specs.Columns.{IsGathered}
use Rattle.column_lists.proofs.Presence.{gathered_is}
use Rattle.near_join.specs.Strips.{StripView, IsListed, is_near_row, object_at, row_in}
use Rattle.near_join.specs.Windows.{IsBetween}
use Rattle.near_join.proofs.Filters.{filter_of_map, filter_same}
use Rattle.near_join.proofs.Sweeping.{row_is}

-- ---- rows with numbers

-- a column of the rows at some places, at numbers of these
column_taken : (objects : List Obj) (f : Obj → ℤ) (places : List ℕ) (values : List ℤ) (numbers : List ℕ) (found : List ℤ) → values ≡ map (λ p. f (object_at objects p)) places → All (λ k. k < length places) numbers
    → IsGathered values numbers found → found ≡ map (λ p. f (object_at objects p)) (map (λ k. get_or places k 0) numbers)
column_taken objects f places values numbers found is there gathered = gathered_is values numbers found (pos 0) gathered ∙ each numbers there
  where
    each : (ks : List ℕ) → All (λ k. k < length places) ks → map (λ k. get_or values k (pos 0)) ks ≡ map (λ p. f (object_at objects p)) (map (λ k. get_or places k 0) ks)
    each [] h = refl
    each (k ∷ ks) h =
        let one : get_or values k (pos 0) ≡ f (object_at objects (get_or places k 0)) = ap (λ l. get_or l k (pos 0)) is ∙ get_or-map (λ p. f (object_at objects p)) places k 0 (pos 0) (h 0 k (omega arith)) in
        ap (λ z. z ∷ map (λ k. get_or values k (pos 0)) ks) one ∙ ap (λ l. f (object_at objects (get_or places k 0)) ∷ l) (each ks (λ j d l. h (suc j) d (omega (arith, l))))

-- the rows with numbers in a strip are listed where those of the strip are
pub taken_listed : (objects : List Obj) (s t : StripView) (numbers : List ℕ) → All (λ k. k < length s.places) numbers → t.places ≡ map (λ k. get_or s.places k 0) numbers
    → IsGathered s.xs numbers t.xs → IsGathered s.ys numbers t.ys → IsGathered s.zs numbers t.zs → IsListed objects s → IsListed objects t
taken_listed objects s t numbers there e x y z listed = record {
  there = subst (All (λ p. p < length objects)) (sym e)
      (All-map (λ p. p < length objects) (λ k. get_or s.places k 0) numbers (λ k d l. listed.there (get_or numbers k d) 0 (there k d l)));
  xs = column_taken objects (λ o. o.at.x) s.places s.xs numbers t.xs listed.xs there x ∙ ap (map (λ p. (object_at objects p).at.x)) (sym e);
  ys = column_taken objects (λ o. o.at.y) s.places s.ys numbers t.ys listed.ys there y ∙ ap (map (λ p. (object_at objects p).at.y)) (sym e);
  zs = column_taken objects (λ o. o.at.z) s.places s.zs numbers t.zs listed.zs there z ∙ ap (map (λ p. (object_at objects p).at.z)) (sym e);
}

-- ---- numbers that are written one after the other, each over the next one's room

more : (test : ℕ → Bool) (from n i : ℕ) → from + n ≡ i → filter test (range_with_len from (n + 1)) ≡ filter test (range_with_len from n) ++ cond (test i) (i ∷ []) []
more test from n i e =
    ap (filter test) (sym (map-id (range_with_len from (n + 1))))
    ∙ filter_of_map_range_with_len_more test (λ k. k) from n i e
    ∙ ap (λ l. filter test l ++ cond (test i) (i ∷ []) []) (map-id (range_with_len from n))

-- the number is counted where the test passes, else written over
pub one_put : (test : ℕ → Bool) (numbers : List ℕ) (count from i : ℕ) (b : Bool) → test i ≡ b → from ≤ i → count < length numbers → take count numbers ≡ filter test (range_with_len from (i - from))
    → take (count + cond b 1 0) (set numbers count i) ≡ filter test (range_with_len from (i + 1 - from))
one_put test numbers count from i b is l room taken =
    by b is ∙ sym (ap (λ n. filter test (range_with_len from n)) (next from i l) ∙ more test from (i - from) i (here from i l) ∙ ap (λ t. filter test (range_with_len from (i - from)) ++ cond t (i ∷ []) []) is)
  where
    next : (from i : ℕ) → from ≤ i → i + 1 - from ≡ (i - from) + 1
    next from i l = omega (arith, l)

    here : (from i : ℕ) → from ≤ i → from + (i - from) ≡ i
    here from i l = omega (arith, l)

    same : (count : ℕ) → count + 0 ≡ count
    same count = omega arith

    by : (b : Bool) → test i ≡ b → take (count + cond b 1 0) (set numbers count i) ≡ filter test (range_with_len from (i - from)) ++ cond b (i ∷ []) []
    by true is = take_more_set numbers count i room ∙ ap (λ l. l ++ i ∷ []) taken
    by false is = ap (λ n. take n (set numbers count i)) (same count) ∙ take-set numbers count i ∙ taken ∙ sym (append-nil (filter test (range_with_len from (i - from))))

pub at_most_one : (b : Bool) → cond b 1 0 ≤ 1
at_most_one true = omega arith
at_most_one false = omega arith

-- one number more in front
first_below : (from most : ℕ) (rest : List ℕ) → from < most → All (λ k. k < most) rest → All (λ k. k < most) (from ∷ rest)
first_below from most rest h all zero d l = h
first_below from most rest h all (suc k) d l = all k d (omega (arith, l))

-- the numbers of a range are below its end
pub range_below : (n from most : ℕ) → from + n ≤ most → All (λ k. k < most) (range_with_len from n)
range_below zero from most h = λ k d l. absurd (omega (arith, l))
range_below (suc n) from most h = first_below from most (range_with_len (from + 1) n) (omega (arith, h)) (range_below n (from + 1) most (omega (arith, h)))

-- ---- the rows near a part of the sky

each_of_range : (P : ℕ → Type 0) (n from : ℕ) → ((j : ℕ) → from ≤ j → j < from + n → P j) → Each P (range_with_len from n)
each_of_range P zero from h = tt
each_of_range P (suc n) from h = (h from (omega arith) (omega arith), each_of_range P n (from + 1) (λ j a b. h j (omega (arith, a)) (omega (arith, b))))

-- a part of a list by its numbers
part_by_numbers : {X : Type 0} (xs : List X) (d : X) (n from : ℕ) → from + n ≤ length xs → map (λ k. get_or xs k d) (range_with_len from n) ≡ take n (drop from xs)
part_by_numbers xs d zero from h = refl
part_by_numbers xs d (suc n) from h =
    ap (λ l. get_or xs from d ∷ l) (part_by_numbers xs d n (from + 1) (omega (arith, h))) ∙ ap (take (suc n)) (sym (drop_more xs from d (omega (arith, h))))

-- of rows that are near in height those are near that are so by their sides
pub near_part : (objects : List Obj) (r : ℕ) (bounds : Bounds) (strip : StripView) (from to : ℕ) → IsListed objects strip → length strip.zs ≡ length strip.places
    → IsBetween strip.zs (bounds.z_low -ℤ pos r) (bounds.z_high +ℤ pos r) from to
    → map (λ k. get_or strip.places k 0) (filter (λ k. near_sides r bounds.sides (row_in strip k)) (range_with_len from (to - from))) ≡ filter (is_near_row objects r bounds) (slice_range strip.places from to)
near_part objects r bounds strip from to listed wide between =
    let order = between.order in
    let there = between.there in
    let test : ℕ → Bool = λ k. near_sides r bounds.sides (row_in strip k) in
    let get : ℕ → ℕ = λ k. get_or strip.places k 0 in
    let overlap : ℕ → Bool = is_near_row objects r bounds in
    let one : (j : ℕ) → from ≤ j → j < from + (to - from) → test j ≡ overlap (get j) =
    λ j a b. sym (ap (near_bounds r bounds) (sym (row_is objects strip j listed (omega (arith, b, order, there, wide))))
    ∙ ap (λ t. t && near_sides r bounds.sides (row_in strip j)) (between.inside j (pos 0) a (omega (arith, b, order)))) in
    ap (map get) (filter_same test (λ k. overlap (get k)) (range_with_len from (to - from)) (each_of_range (λ j. test j ≡ overlap (get j)) (to - from) from one))
    ∙ sym (filter_of_map overlap get (range_with_len from (to - from)))
    ∙ ap (filter overlap) (part_by_numbers strip.places 0 (to - from) from (omega (arith, order, there, wide)))
