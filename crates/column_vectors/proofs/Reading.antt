-- Lanes that are read from a block, and what is read from them.
use Rattle.std.proofs.Common.{◌≡◌, ◌∙◌, ℕ, ◌<◌, ℤ, pos, Bool, true, false, sym, ap, subst, arith, if◌then◌else◌, List, length, get_or, map, replicate, Option, Some, None, All, Result, Ok, Err}
use Rattle.std.specs.Prelude.{is_some, nat_abs, IfOk, IsTrue}
use Rattle.std.specs.List.{range_with_len}
use Rattle.std.proofs.lemmas.List.{get_or-map, get_or-replicate, length-map, length-replicate, same_lists}
use Rattle.std.proofs.lemmas.List.FromFn.{get_or-map-range_with_len, length-map-range_with_len}
use Rattle.std.proofs.lemmas.Simd.{map-map}
use Rattle.column_lists.specs.Columns.{IsGathered, or_zero}
use Rattle.sky_row.specs.Columns.{column_in, no_row, objects_at}
use Rattle.sql_bound.specs.declared.area.AreaTest.{AreaTest}
use Rattle.table_rules.specs.Objects.{Obj, IsRow, cell, column_bound}
use Rattle.value_rules.specs.Areas.{area_holds}
use Rattle.value_rules.specs.Terms.{Term, Number, Column}
use Rattle.value_rules.specs.Values.{cell_of, row, value_at}
use Rattle.column_vectors.specs.declared.lane.Lane.{Lane}
use Rattle.column_vectors.specs.Lanes.{IsLane, IsRead, IsRepeated, numbers_of, value_in, values_in}
use Rattle.column_vectors.specs.Masks.{IsMask}
use Rattle.column_vectors.specs.Totals.{is_known}
use Rattle.column_vectors.proofs.Totals.{shown}

-- what is said of each place is said of the row there
pub listed : {X : Type 0} (g : ℕ → X) (f : Obj → X) (rows : List Obj) (n : ℕ) → n ≡ length rows
    → ((k : ℕ) → k < length rows → g k ≡ f (get_or rows k no_row)) → map g (range_with_len 0 n) ≡ map f rows
listed g f rows n count each =
    same_lists (map g (range_with_len 0 n)) (map f rows) (length-map-range_with_len g 0 n ∙ (count ∙ sym (length-map rows f)))
    (λ k d low.
    let within : k < n = omega (arith, low, length-map-range_with_len g 0 n) in
    let there : k < length rows = omega (arith, within, count) in
    get_or-map-range_with_len g 0 n k k d within (omega arith) ∙ (each k there ∙ sym (get_or-map f rows k no_row d there)))

-- the values of a lane are those of its term
pub lane_values : (rows : List Obj) (t : Term) (lane : Lane) → IsLane rows t lane
    → values_in (numbers_of lane.numbers) lane.known.items ≡ map (λ o. value_at (cell_of (row o)) t) rows
lane_values rows t lane h =
    listed (value_in (numbers_of lane.numbers) lane.known.items) (λ o. value_at (cell_of (row o)) t) rows (length lane.known.items) h.masked
    (λ k low.
    ap (λ b. if b then Some (get_or (numbers_of lane.numbers) k (pos 0)) else None) (h.known k low)
    ∙ (ap (λ n. if is_known (get_or rows k no_row) t then Some n else None) (h.numbers k low) ∙ shown (get_or rows k no_row) t))

-- rows at places are rows
pub rows_there : (objects : List Obj) (places : List ℕ) → All IsRow objects → All (λ place. place < length objects) places
    → All IsRow (objects_at objects places)
rows_there objects places are there = λ k d low.
    let within : k < length places = omega (arith, low, length-map places (λ place. get_or objects place no_row)) in
    subst IsRow (sym (get_or-map (λ place. get_or objects place no_row) places k 0 d within))
    (are (get_or places k 0) no_row (there k 0 within))

-- a lane that was read from a column is that of the column
pub read_column : (objects : List Obj) (places : List ℕ) (col : ℕ) (lane : Lane) → All (λ place. place < length objects) places
    → IsRead (column_in objects col) places (nat_abs (column_bound col)) lane
    → IsLane (objects_at objects places) (Column (record { second = false; col = col })) lane
read_column objects places col lane there h =
    let same : length (objects_at objects places) ≡ length places = length-map places (λ place. get_or objects place no_row) in
    let read = λ (k : ℕ) (low : k < length places).
    get_or-map (λ o. cell o col) objects (get_or places k 0) no_row None (there k 0 low)
    ∙ ap (λ o. cell o col) (sym (get_or-map (λ place. get_or objects place no_row) places k 0 no_row low)) in
    record {
      bound = h.bound;
      count = h.count ∙ sym same;
      masked = h.masked ∙ sym same;
      numbers = λ k low.
          let within : k < length places = omega (arith, low, same) in
          h.numbers k within ∙ ap or_zero (read k within);
      known = λ k low.
          let within : k < length places = omega (arith, low, same) in
          h.known k within ∙ ap is_some (read k within);
    }

-- a number everywhere is the lane of the number
pub repeated_number : (rows : List Obj) (n : ℤ) (lane : Lane) → IsRepeated n (length rows) lane → IsLane rows (Number n) lane
repeated_number rows n lane h = record {
  bound = h.bound;
  count = ap length h.numbers ∙ length-replicate (length rows) n;
  masked = ap length h.known ∙ length-replicate (length rows) true;
  numbers = λ k low. ap (λ l. get_or l k (pos 0)) h.numbers ∙ get_or-replicate (length rows) k n (pos 0) low;
  known = λ k low. ap (λ l. get_or l k false) h.known ∙ get_or-replicate (length rows) k true false low;
}

-- a column of which each row has a value
pub read_whole : (values : List ℤ) (places : List ℕ) (size : ℕ) (lane : Lane) → All (λ place. place < length values) places
    → lane.bound ≡ size → IsGathered values places (numbers_of lane.numbers) → lane.known.items ≡ replicate (length places) true
    → IsRead (map Some values) places size lane
read_whole values places size lane there bound gathered known = record {
  bound = bound;
  count = gathered.count;
  masked = ap length known ∙ length-replicate (length places) true;
  numbers = λ k low. gathered.each k (pos 0) low ∙ sym (ap or_zero (get_or-map Some values (get_or places k 0) (pos 0) None (there k 0 low)));
  known = λ k low.
      ap (λ l. get_or l k false) known
      ∙ (get_or-replicate (length places) k true false low
      ∙ sym (ap is_some (get_or-map Some values (get_or places k 0) (pos 0) None (there k 0 low))));
}

-- a further column
pub read_further : (column : List (Option ℤ)) (places : List ℕ) (size : ℕ) (lane : Lane) → All (λ place. place < length column) places
    → lane.bound ≡ size → IsGathered (map or_zero column) places (numbers_of lane.numbers)
    → IsGathered (map is_some column) places lane.known.items → IsRead column places size lane
read_further column places size lane there bound gathered known = record {
  bound = bound;
  count = gathered.count;
  masked = known.count;
  numbers = λ k low. gathered.each k (pos 0) low ∙ get_or-map or_zero column (get_or places k 0) None (pos 0) (there k 0 low);
  known = λ k low. known.each k false low ∙ get_or-map is_some column (get_or places k 0) None false (there k 0 low);
}

-- where each row has a value, a mask that holds everything says it
pub known_everywhere : (column : List (Option ℤ)) (places : List ℕ) → All (λ place. place < length column) places
    → All (λ v. IsTrue (is_some v)) column → IsGathered (map is_some column) places (replicate (length places) true)
known_everywhere column places there all = record {
  count = length-replicate (length places) true;
  each = λ k d low.
      get_or-replicate (length places) k true d low
      ∙ sym (get_or-map is_some column (get_or places k 0) None d (there k 0 low) ∙ all (get_or places k 0) None (there k 0 low));
}

-- ---- a column of a block

-- what was read of a list of values was read of the column that they are
pub read_as : {E : Type 0} (r : Result Lane E) (xs : List (Option ℤ)) (places : List ℕ) (m : ℕ) (objects : List Obj) (col n : ℕ)
    → col ≡ n → xs ≡ column_in objects n → m ≡ nat_abs (column_bound n) → IfOk r (λ lane. IsRead xs places m lane)
    → IfOk r (λ lane. IsRead (column_in objects col) places (nat_abs (column_bound col)) lane)
read_as r xs places m objects col n is same bound h =
    subst (λ k. IfOk r (λ lane. IsRead (column_in objects k) places (nat_abs (column_bound k)) lane)) (sym is)
    (subst (λ k. IfOk r (λ lane. IsRead (column_in objects n) places k lane)) bound
    (subst (λ ys. IfOk r (λ lane. IsRead ys places m lane)) same h))

pub ids_column : (objects : List Obj) (ids : List ℤ) → ids ≡ map (λ o. o.id) objects → map Some ids ≡ column_in objects 0
ids_column objects ids h = ap (map Some) h ∙ map-map Some (λ o. o.id) objects

pub xs_column : (objects : List Obj) (xs : List ℤ) → xs ≡ map (λ o. o.at.x) objects → map Some xs ≡ column_in objects 1
xs_column objects xs h = ap (map Some) h ∙ map-map Some (λ o. o.at.x) objects

pub ys_column : (objects : List Obj) (ys : List ℤ) → ys ≡ map (λ o. o.at.y) objects → map Some ys ≡ column_in objects 2
ys_column objects ys h = ap (map Some) h ∙ map-map Some (λ o. o.at.y) objects

pub zs_column : (objects : List Obj) (zs : List ℤ) → zs ≡ map (λ o. o.at.z) objects → map Some zs ≡ column_in objects 3
zs_column objects zs h = ap (map Some) h ∙ map-map Some (λ o. o.at.z) objects

-- ---- values as they are told

pub values_count : (numbers : List ℤ) (known : List Bool) → length (values_in numbers known) ≡ length known
values_count numbers known = length-map-range_with_len (value_in numbers known) 0 (length known)

pub value_is : (numbers : List ℤ) (known : List Bool) (i : ℕ) (d : Option ℤ) → i < length known
    → get_or (values_in numbers known) i d ≡ value_in numbers known i
value_is numbers known i d low = get_or-map-range_with_len (value_in numbers known) 0 (length known) i i d low (omega arith)

-- ---- rows that are picked

-- what was read of a block's column is the lane of the column on the picked rows
pub read_rows : {E : Type 0} (r : Result Lane E) (objects rows : List Obj) (places : List ℕ) (col : ℕ) → objects_at objects places ≡ rows
    → All (λ place. place < length objects) places
    → IfOk r (λ lane. IsRead (column_in objects col) places (nat_abs (column_bound col)) lane)
    → IfOk r (λ lane. IsLane rows (Column (record { second = false; col = col })) lane)
read_rows {E} (Err e) objects rows places col is there h = tt
read_rows {E} (Ok lane) objects rows places col is there h =
    subst (λ rows. IsLane rows (Column (record { second = false; col = col })) lane) is (read_column objects places col lane there h)

-- and so is a mask
pub lying_rows : (test : AreaTest) (objects rows : List Obj) (places : List ℕ) (mask : List Bool) → objects_at objects places ≡ rows
    → IsMask (length places) (λ k. area_holds test (get_or objects (get_or places k 0) no_row).at) mask
    → IsMask (length rows) (λ k. area_holds test (get_or rows k no_row).at) mask
lying_rows test objects rows places mask is h =
    let same : length (objects_at objects places) ≡ length places = length-map places (λ place. get_or objects place no_row) in
    subst (λ rows. IsMask (length rows) (λ k. area_holds test (get_or rows k no_row).at) mask) is (record {
      len = h.len ∙ sym same;
      each = λ k low.
          let within : k < length places = omega (arith, low, same) in
          h.each k within
          ∙ ap (λ o. area_holds test o.at) (sym (get_or-map (λ place. get_or objects place no_row) places k 0 no_row within));
    })

pub picked_count : (objects rows : List Obj) (places : List ℕ) → objects_at objects places ≡ rows → length rows ≡ length places
picked_count objects rows places is = sym (ap length is) ∙ length-map places (λ place. get_or objects place no_row)
