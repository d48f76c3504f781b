-- The table that records are accepted as is within the limits, and its sources are those of the records.
use Rattle.std.proofs.Common.{◌≡◌, sym, refl, ap, subst, ℕ, ◌+◌, ◌<◌, ◌≤◌, zero, suc, arith, true, false, List, [], ◌∷◌, length, map, drop, Ok, ℤ, pos, neg_ℤ, ◌≤ℤ◌, int_le, unwrap_or}
use Rattle.std.specs.List.Sorted.{IsPermutation}
use Rattle.std.specs.Prelude.{Some}
use Rattle.std.proofs.lemmas.Bool.{and_parts}
use Rattle.std.proofs.lemmas.Int.{ints}
use Rattle.std.proofs.lemmas.List.{length-map, length-drop}
use Rattle.std.proofs.lemmas.List.Sorted.{All-permutation, length_permutation}
use Rattle.text_rules.specs.Numbers.{int_of}
use Rattle.table_rules.specs.declared.limits.TheConstants.{FURTHER_MOST, ID_MOST}
use Rattle.table_rules.specs.Objects.{is_further}
use Rattle.table_rules.specs.Records.{faults_of_field, faults_of_header, faults_of_rows, field_in, in_range, null_in, number_in}
use Rattle.table_rules.specs.IdOrder.{in_id_order}
use Rattle.table_rules.proofs.Accepted.{IsRight, distinct_rows, each_row, few_fields, few_rows, further_right, no_fault, number_by}
use Rattle.table_rules.proofs.Order.{distinct_in_order, same_in_order}
use Rattle.source_rules.specs.Sources.{Source, SourceTable, IsSource, IsSourceTable, source_bound}
use Rattle.source_rules.specs.SourceRecords.{id_of_source, source_form, source_least, source_of, sources_of_records, with_sources}
use Rattle.source_rules.specs.declared.limits.TheConstants.{SOURCE_COLUMNS_MOST}

abbrev Fields : Type 0
Fields = List (List ℕ)

le_from : (a b : ℤ) → int_le a b ≡ true → a ≤ℤ b
le_from a b h = grind (arith, ints)

-- an id is from 0
id_range : (col : ℕ) (z : ℤ) → col ≤ 1 → in_range source_form col z ≡ true → (pos 0 ≤ℤ z) × (z ≤ℤ pos ID_MOST)
id_range zero z low h = let parts = and_parts _ _ h in (le_from (pos 0) z parts.0, le_from z (pos ID_MOST) parts.1)
id_range (suc zero) z low h = let parts = and_parts _ _ h in (le_from (pos 0) z parts.0, le_from z (pos ID_MOST) parts.1)
id_range (suc (suc col)) z low h = absurd (omega (arith, low))

pub bound_from : (col : ℕ) → 2 ≤ col → source_bound col ≡ pos FURTHER_MOST
bound_from col low = grind (arith)

pub least_from : (col : ℕ) → 2 ≤ col → source_least col ≡ neg_ℤ (pos FURTHER_MOST)
least_from col low = grind (arith)

-- the range of an extra column is that of extra values
pub extra_range : (col : ℕ) (z : ℤ) → 2 ≤ col → in_range source_form col z ≡ true → is_further (Some z) ≡ true
extra_range col z low h = rw (least_from col low, bound_from col low) at h

-- the two ids of a record without a fault
id_by : (row col : ℕ) (fields : Fields) → col ≤ 1 → null_in source_form col (field_in fields col) ≡ false
    → faults_of_field source_form row col (field_in fields col) ≡ [] → (pos 0 ≤ℤ number_in fields col) × (number_in fields col ≤ℤ pos ID_MOST)
id_by row col fields low there h =
    let (z, e, within) = number_by source_form row col (int_of (field_in fields col)) (rw there at h) in
    let same : number_in fields col ≡ z = ap (λ o. unwrap_or o (pos 0)) e in
    subst (λ n. (pos 0 ≤ℤ n) × (n ≤ℤ pos ID_MOST)) (sym same) (id_range col z low within)

-- two ids in their range
abbrev AreIds : Fields → Type 0
AreIds fields = ((pos 0 ≤ℤ number_in fields 0) × (number_in fields 0 ≤ℤ pos ID_MOST)) × ((pos 0 ≤ℤ number_in fields 1) × (number_in fields 1 ≤ℤ pos ID_MOST))

zero_is_id : (pos 0 ≤ℤ pos 0) × (pos 0 ≤ℤ pos ID_MOST)
zero_is_id = (omega (arith, ints), omega (arith, ints))

ids_by : (row : ℕ) (fields : Fields) → ((col : ℕ) → col < length fields → faults_of_field source_form row col (field_in fields col) ≡ []) → AreIds fields
ids_by row [] each = (zero_is_id, zero_is_id)
ids_by row (f ∷ []) each = (id_by row 0 (f ∷ []) (omega arith) refl (each 0 (omega arith)), zero_is_id)
ids_by row (f ∷ g ∷ rest) each =
    (id_by row 0 (f ∷ g ∷ rest) (omega arith) refl (each 0 (omega arith)), id_by row 1 (f ∷ g ∷ rest) (omega arith) refl (each 1 (omega arith)))

-- the source of a record without a fault is within its limits
within_limits : (width : ℕ) (earlier : List Source) (fields : Fields) → width ≤ SOURCE_COLUMNS_MOST → IsRight source_form width earlier fields → IsSource (source_of fields)
within_limits width earlier fields most right =
    let ids = ids_by (length earlier + 1) fields right.each in
    record {
      id = ids.0.0;
      most = ids.0.1;
      object = ids.1.0;
      object_most = ids.1.1;
      further = further_right source_form width earlier fields extra_range right;
      few = omega (arith, most, right.wide, length-map (drop 2 fields) int_of, length-drop 2 fields);
    }

wide_row : (header : Fields) (earlier : List Source) (fields : Fields) → IsRight source_form (length header) earlier fields → length (source_of fields).further ≡ length (drop 2 header)
wide_row header earlier fields right =
    omega (arith, right.wide, length-map (drop 2 fields) int_of, length-drop 2 fields, length-drop 2 header)

-- sources without a fault under a header without one are a table within the limits
limits : (header : Fields) (rows : List Fields) → faults_of_header source_form header ≡ [] → faults_of_rows source_form (length header) rows ≡ []
    → IsSourceTable (with_sources (drop 2 header) (in_id_order id_of_source (map source_of rows)))
limits header rows named h =
    let few = few_fields source_form header named in
    let sources = map source_of rows in
    let table = in_id_order id_of_source sources in
    let moved = same_in_order id_of_source sources in
    record {
      few_names = omega (arith, few, length-drop 2 header);
      few = omega (arith, few_rows source_form (length header) rows h, length_permutation _ _ moved, length-map rows source_of);
      ascend = (distinct_in_order id_of_source sources (distinct_rows source_form (length header) rows h)).ascend;
      wide = All-permutation (λ s. length s.further ≡ length (drop 2 header)) sources table moved
          (each_row source_form (length header) rows h (λ s. length s.further ≡ length (drop 2 header)) (wide_row header));
      rows = All-permutation IsSource sources table moved
          (each_row source_form (length header) rows h IsSource (λ earlier fields right. within_limits (length header) earlier fields few right));
    }

pub accepted_is_a_source_table : (records : List Fields) (t : SourceTable) → sources_of_records records ≡ Ok t → IsSourceTable t
accepted_is_a_source_table [] t h = absurd (cc h)
accepted_is_a_source_table (header ∷ rows) t h =
    let (named, none, same) = no_fault source_form with_sources header rows t h in
    subst IsSourceTable same (limits header rows named none)

pub sources_are_the_records : (header : Fields) (rows : List Fields) (t : SourceTable) → sources_of_records (header ∷ rows) ≡ Ok t → IsPermutation (map source_of rows) t.sources
sources_are_the_records header rows t h =
    subst (λ t. IsPermutation (map source_of rows) t.sources) (no_fault source_form with_sources header rows t h).2 (same_in_order id_of_source (map source_of rows))
