-- A column that is read at picked places.
use Rattle.std.proofs.Common.{◌≡◌, ◌∙◌, ℕ, zero, suc, ◌+◌, ◌-◌, ◌<◌, ◌≤◌, ℤ, pos, ◌+ℤ◌, nat_abs, refl, sym, ap, subst, arith, List, [], ◌∷◌, ◌++◌, length, length-append, get_or, map, Option, Some, None, All}
use Rattle.std.proofs.lemmas.List.{get_or-map, length-map, same_lists}
use Rattle.sky_row.specs.Columns.{no_row, objects_at}
use Rattle.table_rules.specs.Objects.{Obj}
use Rattle.table_rules.specs.declared.limits.TheConstants.{FURTHER_MOST, ROWS_MOST}
use Rattle.value_rules.specs.Widths.{IsOfSize}
use Rattle.column_vectors.specs.Aggregates.{AreSummed, IsNoLarger, StaysWithin, joined_all, joined_from, numbers_between}
use Rattle.column_vectors.specs.Lanes.{IsSmall, numbers_of, values_in}
use Rattle.column_vectors.specs.PickedColumns.{IsPickedColumn, numbers_at}
use Rattle.column_vectors.specs.Sources.{IsWithinBound, values_of}
use Rattle.column_vectors.specs.declared.least_greatest.TheConstants.{LONG}
use Rattle.column_vectors.specs.declared.join.TheConstants.{NARROW_MOST, WIDE_MOST}
use Rattle.column_vectors.specs.declared.lane.Lane.{Lane}
use Rattle.column_vectors.specs.declared.value_list.Source.{Source}
use Rattle.column_vectors.specs.declared.value_list.Source.TheVariants as source
use Rattle.column_vectors.proofs.Aggregated.{are_summed, chosen_stays, first_number, joined_number, number_more, number_size, numbers_none, sum_stays}
use Rattle.column_vectors.proofs.Reading.{values_count}

-- ---- numbers none of which is NULL, one more at a time

some_there : (numbers : List ℤ) (i : ℕ) → i < length numbers → i < length (map Some numbers)
some_there numbers i low = omega (arith, low, length-map numbers Some)

some_at : (numbers : List ℤ) (i : ℕ) → i < length numbers → get_or (map Some numbers) i None ≡ Some (get_or numbers i (pos 0))
some_at numbers i low = get_or-map Some numbers i (pos 0) None low

pub some_joined : (op : ℤ → ℤ → ℤ) (first total : ℤ) (numbers : List ℤ) (from i : ℕ) → from ≤ i → i < length numbers
    → total ≡ joined_from op first (numbers_between (map Some numbers) from i)
    → op total (get_or numbers i (pos 0)) ≡ joined_from op first (numbers_between (map Some numbers) from (i + 1))
some_joined op first total numbers from i order low before =
    joined_number op first total (map Some numbers) from i (get_or numbers i (pos 0)) order (some_there numbers i low) (some_at numbers i low) before

pub some_size : (op : ℤ → ℤ → ℤ) (limit : ℕ) (first total : ℤ) (numbers : List ℤ) (from i to : ℕ) → from ≤ i → i < to → i < length numbers
    → StaysWithin op limit first (map Some numbers) from to → total ≡ joined_from op first (numbers_between (map Some numbers) from i)
    → nat_abs (op total (get_or numbers i (pos 0))) ≤ limit
some_size op limit first total numbers from i to order high low stays before =
    number_size op limit first total (map Some numbers) from i to (get_or numbers i (pos 0)) order high (some_there numbers i low) (some_at numbers i low) stays before

-- the first of them, and the others behind it
pub some_first : (op : ℤ → ℤ → ℤ) (numbers : List ℤ) (from to : ℕ) → from < to → from < length numbers
    → Some (joined_from op (get_or numbers from (pos 0)) (numbers_between (map Some numbers) (from + 1) to)) ≡ joined_all op (numbers_between (map Some numbers) from to)
some_first op numbers from to order low =
    first_number op (map Some numbers) from from to (get_or numbers from (pos 0)) (omega arith) order (some_there numbers from low) (some_at numbers from low)
    (numbers_none (map Some numbers) from)

-- how many there are
some_few : (numbers : List ℤ) (from n : ℕ) → from + n ≤ length numbers → length (numbers_between (map Some numbers) from (from + n)) ≡ n
some_few numbers from zero low = ap length (ap (numbers_between (map Some numbers) from) (omega arith) ∙ numbers_none (map Some numbers) from)
some_few numbers from (suc n) low =
    ap (λ k. length (numbers_between (map Some numbers) from k)) (omega arith)
    ∙ (ap length (number_more (map Some numbers) from (from + n) (get_or numbers (from + n) (pos 0)) (omega arith) (some_there numbers (from + n) (omega (arith, low))) (some_at numbers (from + n) (omega (arith, low))))
    ∙ (length-append (numbers_between (map Some numbers) from (from + n)) (get_or numbers (from + n) (pos 0) ∷ [])
    ∙ omega (arith, some_few numbers from n (omega (arith, low)))))

pub some_count : (numbers : List ℤ) (from to : ℕ) → from ≤ to → to ≤ length numbers → to - from ≡ length (numbers_between (map Some numbers) from to)
some_count numbers from to order low =
    sym (ap (λ k. length (numbers_between (map Some numbers) from k)) (omega (arith, order))
    ∙ some_few numbers from (to - from) (omega (arith, order, low)))

-- ---- numbers at places

pub at_place : (values : List ℤ) (places : List ℕ) (i : ℕ) → i < length places
    → get_or (numbers_at values places) i (pos 0) ≡ get_or values (get_or places i 0) (pos 0)
at_place values places i low = get_or-map (λ place. get_or values place (pos 0)) places i 0 (pos 0) low

pub count_at : (values : List ℤ) (places : List ℕ) → length (numbers_at values places) ≡ length places
count_at values places = length-map places (λ place. get_or values place (pos 0))

pub sized_at : (values : List ℤ) (places : List ℕ) → IsPickedColumn values places → All (IsOfSize FURTHER_MOST) (map Some (numbers_at values places))
sized_at values places h = λ k d low.
    let within : k < length places = omega (arith, low, length-map (numbers_at values places) Some, count_at values places) in
    let there : k < length (numbers_at values places) = omega (arith, within, count_at values places) in
    subst (IsOfSize FURTHER_MOST) (sym (get_or-map Some (numbers_at values places) k (pos 0) d there ∙ ap Some (at_place values places k within)))
    (h.fits (get_or places k 0) (pos 0) (h.there k 0 within))

pub places_summed : (values : List ℤ) (places : List ℕ) → IsPickedColumn values places → AreSummed LONG (map Some (numbers_at values places))
places_summed values places h = are_summed FURTHER_MOST (map Some (numbers_at values places)) LONG (sized_at values places h) (omega arith)

pub places_stay : (values : List ℤ) (places : List ℕ) (from to : ℕ) → IsPickedColumn values places → to ≤ ROWS_MOST
    → StaysWithin (λ a b. a +ℤ b) WIDE_MOST (pos 0) (map Some (numbers_at values places)) from to
places_stay values places from to h few = sum_stays FURTHER_MOST (map Some (numbers_at values places)) from to (sized_at values places h) (omega arith) few

pub places_chosen : (op : ℤ → ℤ → ℤ) (values : List ℤ) (places : List ℕ) (first from to : ℕ) → IsNoLarger op → first < length places → IsPickedColumn values places
    → StaysWithin op NARROW_MOST (get_or (numbers_at values places) first (pos 0)) (map Some (numbers_at values places)) from to
places_chosen op values places first from to choice low h =
    chosen_stays op FURTHER_MOST NARROW_MOST (get_or (numbers_at values places) first (pos 0)) (map Some (numbers_at values places)) from to choice
    (subst (λ z. nat_abs z ≤ FURTHER_MOST) (sym (at_place values places first low)) (h.fits (get_or places first 0) (pos 0) (h.there first 0 low)))
    (sized_at values places h) (omega arith)

-- the values at the places are those of the rows there
pub picked_values : (f : Obj → Option ℤ) (objects : List Obj) (values : List ℤ) (places : List ℕ) → map Some values ≡ map f objects
    → All (λ place. place < length objects) places → map Some (numbers_at values places) ≡ map f (objects_at objects places)
picked_values f objects values places are there =
    same_lists (map Some (numbers_at values places)) (map f (objects_at objects places))
    (length-map (numbers_at values places) Some ∙ (count_at values places
    ∙ sym (length-map (objects_at objects places) f ∙ length-map places (λ place. get_or objects place no_row))))
    (λ k d low.
    let within : k < length places = omega (arith, low, length-map (numbers_at values places) Some, count_at values places) in
    let here : k < length (numbers_at values places) = omega (arith, within, count_at values places) in
    let row_here : k < length (objects_at objects places) = omega (arith, within, length-map places (λ place. get_or objects place no_row)) in
    let place = get_or places k 0 in
    let low_place : place < length objects = there k 0 within in
    let low_value : place < length values = omega (arith, low_place, ap length are, length-map values Some, length-map objects f) in
    get_or-map Some (numbers_at values places) k (pos 0) d here
    ∙ (ap Some (at_place values places k within)
    ∙ (sym (get_or-map Some values place (pos 0) d low_value)
    ∙ (ap (λ l. get_or l place d) are
    ∙ (get_or-map f objects place no_row d low_place
    ∙ (ap f (sym (get_or-map (λ place. get_or objects place no_row) places k 0 no_row within))
    ∙ sym (get_or-map f (objects_at objects places) k no_row d row_here)))))))

pub is_picked_column : (f : Obj → Option ℤ) (objects : List Obj) (values : List ℤ) (places : List ℕ) → map Some values ≡ map f objects
    → All (λ place. place < length objects) places → All (λ z. nat_abs z ≤ FURTHER_MOST) values → IsPickedColumn values places
is_picked_column f objects values places are there fits = record {
  there = λ k d low. omega (arith, there k d low, ap length are, length-map values Some, length-map objects f);
  fits = fits;
}

-- ---- where values stand

pub lane_view : (at : Source) (lane : Lane) (values : List (Option ℤ)) → at ≡ source.Lane lane → values_of at ≡ values
    → values_in (numbers_of lane.numbers) lane.known.items ≡ values
lane_view at lane values is view = ap values_of (sym is) ∙ view

pub lane_count : (at : Source) (lane : Lane) (values : List (Option ℤ)) → at ≡ source.Lane lane → values_of at ≡ values
    → length values ≡ length lane.known.items
lane_count at lane values is view = sym (ap length (lane_view at lane values is view)) ∙ values_count (numbers_of lane.numbers) lane.known.items

pub lane_small_there : (at : Source) (lane : Lane) → at ≡ source.Lane lane → IsWithinBound at → IsSmall lane
lane_small_there at lane is h = subst IsWithinBound is h

pub column_view : (at : Source) (numbers : List ℤ) (values : List (Option ℤ)) → at ≡ source.Column numbers → values_of at ≡ values → map Some numbers ≡ values
column_view at numbers values is view = ap values_of (sym is) ∙ view

pub column_count : (at : Source) (numbers : List ℤ) (values : List (Option ℤ)) (from to : ℕ) → at ≡ source.Column numbers → values_of at ≡ values
    → from ≤ to → to ≤ length values → to - from ≡ length (numbers_between values from to)
column_count at numbers values from to is view order low =
    let same = column_view at numbers values is view in
    some_count numbers from to order (omega (arith, low, ap length same, length-map numbers Some))
    ∙ ap (λ l. length (numbers_between l from to)) same
