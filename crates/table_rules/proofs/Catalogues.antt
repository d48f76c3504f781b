-- The object table: what records are accepted as is a catalogue of the data rows, and rows with distinct ids have one table.
use Rattle.std.proofs.Common.{◌≡◌, sym, refl, ap, subst, ℕ, ◌+◌, ◌≤◌, arith, true, false, ◌==◌, nat_le, List, [], ◌∷◌, length, map, drop, Some, Ok, ℤ, pos, neg_ℤ, ◌≤ℤ◌, int_le, unwrap_or}
use Rattle.std.specs.List.Sorted.{IsPermutation}
use Rattle.std.proofs.lemmas.Bool.{and_parts}
use Rattle.std.proofs.lemmas.Int.{ints}
use Rattle.std.proofs.lemmas.List.{length-map, length-drop}
use Rattle.std.proofs.lemmas.List.Sorted.{All-permutation, length_permutation}
use Rattle.text_rules.specs.Numbers.{int_of}
use Rattle.sky_vector.specs.Points.{is_admissible}
use Rattle.table_rules.specs.declared.limits.TheConstants.{COLUMNS_MOST, FURTHER_MOST, ID_MOST}
use Rattle.table_rules.specs.declared.fault.LoadFault.TheVariants.{Length}
use Rattle.table_rules.specs.Objects.{Obj, Catalogue, IsRow, IsCatalogue, IsTable, column_bound, is_further}
use Rattle.table_rules.specs.Ordered.{by_id, AreApart}
use Rattle.table_rules.specs.Records.{catalogue_of_records, catalogue_with, column_least, faults_of_field, faults_of_header, faults_of_rows, field_in, in_range, number_in, object_form, row_of}
use Rattle.table_rules.proofs.Accepted.{Fields, IsRight, distinct_rows, each_row, few_fields, few_rows, further_right, no_fault, number_by}
use Rattle.table_rules.proofs.Faults.{right_unless}
use Rattle.table_rules.proofs.Order.{distinct_in_order, one_order, same_in_order}

-- the id of a row
abbrev id_of : Obj → ℤ
id_of o = o.id

-- rows no two of which have one id are, in ascending order of id, their table
pub apart_have_a_table : (rows : List Obj) → AreApart rows → IsTable rows (by_id rows)
apart_have_a_table rows h = let order = distinct_in_order id_of rows h in record { same = order.same; ascend = order.ascend }

-- rows have one table at most
pub one_table : (rows table : List Obj) → IsTable rows table → table ≡ by_id rows
one_table rows table is = one_order id_of rows table (record { same = is.same; ascend = is.ascend })

le_from : (a b : ℤ) → int_le a b ≡ true → a ≤ℤ b
le_from a b h = grind (arith, ints)

from_zero : (z : ℤ) → in_range object_form 0 z ≡ true → (pos 0 ≤ℤ z) × (z ≤ℤ pos ID_MOST)
from_zero z h = let parts = and_parts _ _ h in (le_from (pos 0) z parts.0, le_from z (pos ID_MOST) parts.1)

bound_from : (col : ℕ) → 4 ≤ col → column_bound col ≡ pos FURTHER_MOST
bound_from col low = grind (arith)

least_from : (col : ℕ) → 4 ≤ col → column_least col ≡ neg_ℤ (pos FURTHER_MOST)
least_from col low =
    let e : (col == 0) ≡ false = grind (arith) in
    let f : nat_le col 3 ≡ false = grind (arith) in
    rw (e, f) refl

-- the range of an extra column is that of extra values
extra_range : (col : ℕ) (z : ℤ) → 4 ≤ col → in_range object_form col z ≡ true → is_further (Some z) ≡ true
extra_range col z low h = rw (least_from col low, bound_from col low) at h

-- the id of a record without a fault
id_by : (row : ℕ) (fields : Fields) → faults_of_field object_form row 0 (field_in fields 0) ≡ [] → (pos 0 ≤ℤ number_in fields 0) × (number_in fields 0 ≤ℤ pos ID_MOST)
id_by row fields h =
    let (z, e, within) = number_by object_form row 0 (int_of (field_in fields 0)) h in
    let same : number_in fields 0 ≡ z = ap (λ o. unwrap_or o (pos 0)) e in
    subst (λ n. (pos 0 ≤ℤ n) × (n ≤ℤ pos ID_MOST)) (sym same) (from_zero z within)

-- its position is admissible
at_by : (row : ℕ) (fields : Fields) → object_form.whole row fields ≡ [] → is_admissible (row_of fields).at ≡ true
at_by row fields h = right_unless (is_admissible (row_of fields).at) (Length row) h

-- the row of a record without a fault is within its limits
within_limits : (width : ℕ) (earlier : List Obj) (fields : Fields) → width ≤ COLUMNS_MOST → IsRight object_form width earlier fields → IsRow (row_of fields)
within_limits width earlier [] most right = record {
  id = omega (arith, ints);
  most = omega (arith, ints);
  at = at_by (length earlier + 1) [] right.whole;
  further = refl;
  few = omega arith;
}
within_limits width earlier (f ∷ fs) most right =
    let ids = id_by (length earlier + 1) (f ∷ fs) (right.each 0 (omega arith)) in
    record {
      id = ids.0;
      most = ids.1;
      at = at_by (length earlier + 1) (f ∷ fs) right.whole;
      further = further_right object_form width earlier (f ∷ fs) extra_range right;
      few = omega (arith, most, right.wide, length-map (drop 4 (f ∷ fs)) int_of, length-drop 4 (f ∷ fs));
    }

wide_row : (header : Fields) (earlier : List Obj) (fields : Fields) → IsRight object_form (length header) earlier fields → length (row_of fields).further ≡ length (drop 4 header)
wide_row header earlier fields right =
    omega (arith, right.wide, length-map (drop 4 fields) int_of, length-drop 4 fields, length-drop 4 header)

-- rows without a fault under a header without one are a catalogue within the limits
limits : (header : Fields) (rows : List Fields) → faults_of_header object_form header ≡ [] → faults_of_rows object_form (length header) rows ≡ []
    → IsCatalogue (catalogue_with (drop 4 header) (by_id (map row_of rows)))
limits header rows named h =
    let few = few_fields object_form header named in
    let objects = map row_of rows in
    let table = apart_have_a_table objects (distinct_rows object_form (length header) rows h) in
    record {
      few_names = omega (arith, few, length-drop 4 header);
      few = omega (arith, few_rows object_form (length header) rows h, length_permutation _ _ table.same, length-map rows row_of);
      ascend = table.ascend;
      wide = All-permutation (λ o. length o.further ≡ length (drop 4 header)) objects (by_id objects) table.same
          (each_row object_form (length header) rows h (λ o. length o.further ≡ length (drop 4 header)) (wide_row header));
      rows = All-permutation IsRow objects (by_id objects) table.same
          (each_row object_form (length header) rows h IsRow (λ earlier fields right. within_limits (length header) earlier fields few right));
    }

pub accepted_is_catalogue : (records : List Fields) (c : Catalogue) → catalogue_of_records records ≡ Ok c → IsCatalogue c
accepted_is_catalogue [] c h = absurd (cc h)
accepted_is_catalogue (header ∷ rows) c h =
    let (named, none, same) = no_fault object_form catalogue_with header rows c h in
    subst IsCatalogue same (limits header rows named none)

pub objects_are_the_data_rows : (header : Fields) (rows : List Fields) (c : Catalogue) → catalogue_of_records (header ∷ rows) ≡ Ok c → IsPermutation (map row_of rows) c.objects
objects_are_the_data_rows header rows c h =
    subst (λ c. IsPermutation (map row_of rows) c.objects) (no_fault object_form catalogue_with header rows c h).2 (same_in_order id_of (map row_of rows))
