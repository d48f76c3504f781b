-- What kernels keep, by the rows.
use Rattle.std.proofs.Common.{◌≡◌, ◌∙◌, refl, sym, ap, ℕ, ◌<◌, ◌≤◌, ◌==◌, ℤ, pos, arith, Bool, true, false, not, ◌&&◌, List, length, get_or, map, Option, None, Some}
use Rattle.std.specs.Prelude.{All, int_le, is_none, is_some}
use Rattle.std.proofs.lemmas.List.{get_or-map, length-map}
use Rattle.sky_vector.specs.Points.{IsWithin, chord_squared}
use Rattle.sky_vector.specs.Pos.{point}
use Rattle.sky_vector.specs.declared.position.Pos.{Pos}
use Rattle.sql_bound.specs.declared.area.AreaTest.TheVariants.{Cap}
use Rattle.sql_tree.specs.declared.cond.Cmp.{Cmp}
use Rattle.table_rules.specs.Objects.{Obj, cell}
use Rattle.sky_row.specs.Columns.{column_in, no_row}
use Rattle.column_lists.specs.Columns.{or_zero}
use Rattle.value_rules.specs.Areas.{area_holds}
use Rattle.value_rules.specs.Truth.{compares}
use Rattle.lane_filter.specs.Tests.{IsKeptBy, is_from_to, is_near}
use Rattle.chunk_filter.specs.Asking.{is_compared, is_in_range}

-- a comparison of a part of the positions, in 32 bits
pub part_compared : (f : Obj → ℤ) (objects : List Obj) (parts : List ℤ) (op : Cmp) (n narrow : ℤ) (old new : List Bool) → parts ≡ map f objects
    → length objects ≡ length old → All IsWithin parts → ((op : Cmp) (part : ℤ) → IsWithin part → compares op part narrow ≡ compares op part n)
    → IsKeptBy (λ k. compares op (get_or parts k (pos 0)) narrow) old new
    → IsKeptBy (λ k. is_compared op n (Some (f (get_or objects k no_row)))) old new
part_compared f objects parts op n narrow old new is count within same h = λ k low.
    let there : k < length objects = omega (arith, low, count) in
    let long : k < length parts = omega (arith, there, ap length is, length-map objects f) in
    h k low ∙ ap (λ b. get_or old k false && b)
    (same op (get_or parts k (pos 0)) (within k (pos 0) long)
    ∙ ap (λ z. compares op z n) (ap (λ l. get_or l k (pos 0)) is ∙ get_or-map f objects k no_row (pos 0) there))

-- the same of 64 bits
pub id_compared : (f : Obj → ℤ) (objects : List Obj) (parts : List ℤ) (op : Cmp) (n : ℤ) (old new : List Bool) → parts ≡ map f objects
    → length objects ≡ length old → IsKeptBy (λ k. compares op (get_or parts k (pos 0)) n) old new
    → IsKeptBy (λ k. is_compared op n (Some (f (get_or objects k no_row)))) old new
id_compared f objects parts op n old new is count h = λ k low.
    let there : k < length objects = omega (arith, low, count) in
    h k low ∙ ap (λ b. get_or old k false && b)
    (ap (λ z. compares op z n) (ap (λ l. get_or l k (pos 0)) is ∙ get_or-map f objects k no_row (pos 0) there))

-- a number that passes where the value is there is a value that passes
compared_value : (op : Cmp) (n : ℤ) (b : Bool) (value : Option ℤ) → ((b && compares op (or_zero value) n) && is_some value) ≡ (b && is_compared op n value)
compared_value op n true None = last (compares op (pos 0) n)
  where
    last : (a : Bool) → (a && false) ≡ false
    last true = refl
    last false = refl
compared_value op n true (Some z) = last (compares op z n)
  where
    last : (a : Bool) → (a && true) ≡ a
    last true = refl
    last false = refl
compared_value op n false value = refl

-- a comparison of a further column, and then its presence
pub further_compared : (column : List (Option ℤ)) (op : Cmp) (n : ℤ) (old mid new : List Bool) → length column ≡ length old → length mid ≡ length old
    → IsKeptBy (λ k. compares op (get_or (map or_zero column) k (pos 0)) n) old mid → IsKeptBy (λ k. is_some (get_or column k None)) mid new
    → IsKeptBy (λ k. is_compared op n (get_or column k None)) old new
further_compared column op n old mid new count same h present = λ k low.
    let there : k < length column = omega (arith, low, count) in
    present k (omega (arith, low, same))
    ∙ (ap (λ b. b && is_some (get_or column k None))
    (h k low ∙ ap (λ z. get_or old k false && compares op z n) (get_or-map or_zero column k None (pos 0) there))
    ∙ compared_value op n (get_or old k false) (get_or column k None))

-- ---- ranges

-- a range of a part of the positions, in 32 bits
pub part_ranged : (f : Obj → ℤ) (objects : List Obj) (parts : List ℤ) (a b first last : ℤ) (old new : List Bool) → parts ≡ map f objects
    → length objects ≡ length old → All IsWithin parts → ((part : ℤ) → IsWithin part → int_le first part ≡ int_le a part)
    → ((part : ℤ) → IsWithin part → int_le part last ≡ int_le part b)
    → IsKeptBy (λ k. is_from_to first last (get_or parts k (pos 0))) old new
    → IsKeptBy (λ k. is_in_range a b (Some (f (get_or objects k no_row)))) old new
unfolding is_from_to
part_ranged f objects parts a b first last old new is count within from to h = λ k low.
    let there : k < length objects = omega (arith, low, count) in
    let long : k < length parts = omega (arith, there, ap length is, length-map objects f) in
    let part = get_or parts k (pos 0) in
    h k low ∙ ap (λ t. get_or old k false && t)
    (ap (λ t. t && int_le part last) (from part (within k (pos 0) long))
    ∙ (ap (λ t. int_le a part && t) (to part (within k (pos 0) long))
    ∙ ap (λ z. int_le a z && int_le z b) (ap (λ l. get_or l k (pos 0)) is ∙ get_or-map f objects k no_row (pos 0) there)))

-- the same of 64 bits
pub id_ranged : (f : Obj → ℤ) (objects : List Obj) (parts : List ℤ) (a b : ℤ) (old new : List Bool) → parts ≡ map f objects
    → length objects ≡ length old → IsKeptBy (λ k. is_from_to a b (get_or parts k (pos 0))) old new
    → IsKeptBy (λ k. is_in_range a b (Some (f (get_or objects k no_row)))) old new
unfolding is_from_to
id_ranged f objects parts a b old new is count h = λ k low.
    let there : k < length objects = omega (arith, low, count) in
    h k low ∙ ap (λ z. get_or old k false && (int_le a z && int_le z b)) (ap (λ l. get_or l k (pos 0)) is ∙ get_or-map f objects k no_row (pos 0) there)

ranged_value : (a b : ℤ) (m : Bool) (value : Option ℤ) → ((m && is_from_to a b (or_zero value)) && is_some value) ≡ (m && is_in_range a b value)
unfolding is_from_to
ranged_value a b true None = last (int_le a (pos 0) && int_le (pos 0) b)
  where
    last : (t : Bool) → (t && false) ≡ false
    last true = refl
    last false = refl
ranged_value a b true (Some z) = last (int_le a z && int_le z b)
  where
    last : (t : Bool) → (t && true) ≡ t
    last true = refl
    last false = refl
ranged_value a b false value = refl

-- a range of a further column, and then its presence
pub further_ranged : (column : List (Option ℤ)) (a b : ℤ) (old mid new : List Bool) → length column ≡ length old → length mid ≡ length old
    → IsKeptBy (λ k. is_from_to a b (get_or (map or_zero column) k (pos 0))) old mid → IsKeptBy (λ k. is_some (get_or column k None)) mid new
    → IsKeptBy (λ k. is_in_range a b (get_or column k None)) old new
further_ranged column a b old mid new count same h present = λ k low.
    let there : k < length column = omega (arith, low, count) in
    present k (omega (arith, low, same))
    ∙ (ap (λ t. t && is_some (get_or column k None))
    (h k low ∙ ap (λ z. get_or old k false && is_from_to a b z) (get_or-map or_zero column k None (pos 0) there))
    ∙ ranged_value a b (get_or old k false) (get_or column k None))

-- ---- positions

-- a cap around the centre, by the parts of the positions
pub near_told : (objects : List Obj) (centre : Pos) (n : ℤ) (m : ℕ) (xs ys zs : List ℤ) (old new : List Bool)
    → xs ≡ map (λ o. o.at.x) objects → ys ≡ map (λ o. o.at.y) objects → zs ≡ map (λ o. o.at.z) objects
    → length objects ≡ length old → pos m ≡ n
    → IsKeptBy (λ k. is_near (point centre) (pos m) (get_or xs k (pos 0)) (get_or ys k (pos 0)) (get_or zs k (pos 0))) old new
    → IsKeptBy (λ k. area_holds (Cap centre n) (get_or objects k no_row).at) old new
unfolding is_near
near_told objects centre n m xs ys zs old new of_x of_y of_z count is h = λ k low.
    let there : k < length objects = omega (arith, low, count) in
    let x = ap (λ l. get_or l k (pos 0)) of_x ∙ get_or-map (λ o. o.at.x) objects k no_row (pos 0) there in
    let y = ap (λ l. get_or l k (pos 0)) of_y ∙ get_or-map (λ o. o.at.y) objects k no_row (pos 0) there in
    let z = ap (λ l. get_or l k (pos 0)) of_z ∙ get_or-map (λ o. o.at.z) objects k no_row (pos 0) there in
    h k low ∙ ap (λ t. get_or old k false && t)
    (ap (λ v. int_le (chord_squared (record { x = v; y = get_or ys k (pos 0); z = get_or zs k (pos 0) }) (point centre)) (pos m)) x
    ∙ (ap (λ v. int_le (chord_squared (record { x = (get_or objects k no_row).at.x; y = v; z = get_or zs k (pos 0) }) (point centre)) (pos m)) y
    ∙ (ap (λ v. int_le (chord_squared (record { x = (get_or objects k no_row).at.x; y = (get_or objects k no_row).at.y; z = v }) (point centre)) (pos m)) z
    ∙ ap (λ v. int_le (chord_squared (get_or objects k no_row).at (point centre)) v) is)))

-- ---- presence

-- where each row has a value nothing is cleared
pub all_valued : (column : List (Option ℤ)) (mask : List Bool) → length column ≡ length mask → All (λ cell. is_some cell ≡ true) column
    → IsKeptBy (λ k. is_some (get_or column k None)) mask mask
all_valued column mask count all = λ k low. stays (get_or mask k false) (is_some (get_or column k None)) (all k None (omega (arith, low, count)))
  where
    stays : (m t : Bool) → t ≡ true → m ≡ (m && t)
    stays true t is = sym is
    stays false t is = refl

-- and all is cleared where a row without one is asked for
pub none_missing : (column : List (Option ℤ)) (old new : List Bool) → length column ≡ length old → All (λ cell. is_some cell ≡ true) column
    → IsKeptBy (λ k. false) old new → IsKeptBy (λ k. is_none (get_or column k None)) old new
none_missing column old new count all h = λ k low.
    h k low ∙ ap (λ t. get_or old k false && t) (sym (not_none (get_or column k None) (all k None (omega (arith, low, count)))))
  where
    not_none : (v : Option ℤ) → is_some v ≡ true → is_none v ≡ false
    not_none None is = absurd cc
    not_none (Some z) is = refl

-- the presence of a column
pub valued_there : (column : List (Option ℤ)) (present old new : List Bool) → length column ≡ length old → present ≡ map is_some column
    → IsKeptBy (λ k. get_or present k false) old new → IsKeptBy (λ k. is_some (get_or column k None)) old new
valued_there column present old new count is h = λ k low.
    h k low ∙ ap (λ t. get_or old k false && t) (ap (λ l. get_or l k false) is ∙ get_or-map is_some column k None false (omega (arith, low, count)))

pub missing_there : (column : List (Option ℤ)) (present old new : List Bool) → length column ≡ length old → present ≡ map is_some column
    → IsKeptBy (λ k. not (get_or present k false)) old new → IsKeptBy (λ k. is_none (get_or column k None)) old new
missing_there column present old new count is h = λ k low.
    h k low ∙ ap (λ t. get_or old k false && t)
    (ap (λ l. not (get_or l k false)) is
    ∙ (ap not (get_or-map is_some column k None false (omega (arith, low, count))) ∙ turned (get_or column k None)))
  where
    turned : (v : Option ℤ) → not (is_some v) ≡ is_none v
    turned None = refl
    turned (Some z) = refl

-- ---- from columns to rows

-- a test of a further column is one of the rows' values in it
pub column_told : (test : Option ℤ → Bool) (objects : List Obj) (col : ℕ) (column : List (Option ℤ)) (old new : List Bool) → column ≡ column_in objects col
    → length objects ≡ length old → IsKeptBy (λ k. test (get_or column k None)) old new
    → IsKeptBy (λ k. test (cell (get_or objects k no_row) col)) old new
column_told test objects col column old new is count h = λ k low.
    h k low ∙ ap (λ v. get_or old k false && test v)
    (ap (λ l. get_or l k None) is ∙ get_or-map (λ o. cell o col) objects k no_row None (omega (arith, low, count)))

-- a test of one of the first four columns, by its number
pub first_told : (test : Option ℤ → Bool) (f : Obj → ℤ) (objects : List Obj) (col i : ℕ) (old new : List Bool) → col ≡ i → ((o : Obj) → cell o i ≡ Some (f o))
    → IsKeptBy (λ k. test (Some (f (get_or objects k no_row)))) old new → IsKeptBy (λ k. test (cell (get_or objects k no_row) col)) old new
first_told test f objects col i old new is cell_is h = λ k low.
    h k low ∙ ap (λ v. get_or old k false && test v) (sym (ap (cell (get_or objects k no_row)) is ∙ cell_is (get_or objects k no_row)))

-- a row has a value in each of the first four columns
has_first : (o : Obj) (col : ℕ) → col < 4 → (c0 c1 c2 c3 : Bool) → (col == 0) ≡ c0 → (col == 1) ≡ c1 → (col == 2) ≡ c2 → (col == 3) ≡ c3 → is_some (cell o col) ≡ true
has_first o col low true c1 c2 c3 e0 e1 e2 e3 = rw e0 refl
has_first o col low false true c2 c3 e0 e1 e2 e3 = rw (e0, e1) refl
has_first o col low false false true c3 e0 e1 e2 e3 = rw (e0, e1, e2) refl
has_first o col low false false false true e0 e1 e2 e3 = rw (e0, e1, e2, e3) refl
has_first o col low false false false false e0 e1 e2 e3 = absurd (grind (arith, low, e0, e1, e2, e3))

-- so the presence of such a column clears nothing
pub first_valued : (objects : List Obj) (col : ℕ) (mask : List Bool) → col < 4 → IsKeptBy (λ k. is_some (cell (get_or objects k no_row) col)) mask mask
first_valued objects col mask low = λ k there. stays (get_or mask k false) (is_some (cell (get_or objects k no_row) col)) (has_first (get_or objects k no_row) col low _ _ _ _ refl refl refl refl)
  where
    stays : (m t : Bool) → t ≡ true → m ≡ (m && t)
    stays true t is = sym is
    stays false t is = refl

-- and its absence clears all
pub first_missing : (objects : List Obj) (col : ℕ) (old new : List Bool) → col < 4 → IsKeptBy (λ k. false) old new
    → IsKeptBy (λ k. is_none (cell (get_or objects k no_row) col)) old new
first_missing objects col old new low h = λ k there.
    h k there ∙ ap (λ t. get_or old k false && t) (sym (not_none (cell (get_or objects k no_row) col) (has_first (get_or objects k no_row) col low _ _ _ _ refl refl refl refl)))
  where
    not_none : (v : Option ℤ) → is_some v ≡ true → is_none v ≡ false
    not_none None is = absurd cc
    not_none (Some z) is = refl

-- a mask that is false up to its end
pub cleared : (old new : List Bool) (i : ℕ) → length old ≤ i → ((k : ℕ) → k < i → get_or new k false ≡ false) → IsKeptBy (λ k. false) old new
cleared old new i high h = λ k low. h k (omega (arith, low, high)) ∙ sym (and_false (get_or old k false))
  where
    and_false : (m : Bool) → (m && false) ≡ false
    and_false true = refl
    and_false false = refl
