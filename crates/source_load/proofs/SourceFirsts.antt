-- The first fault of a record: that of its ids, or of its extra fields.
use Rattle.std.proofs.Common.{◌≡◌, ◌∙◌, sym, refl, ap, subst, ℕ, ℤ, pos, ◌-◌, ◌≤◌, ◌≤ℤ◌, suc, arith, List, [], ◌++◌, length, append_assoc, ◌==◌, Option, Some, true, map, drop}
use Rattle.std.specs.List.{flat_map, range_with_len, list_all}
use Rattle.std.proofs.lemmas.List.{append-nil, length-drop, length-map}
use Rattle.text_rules.specs.Numbers.{int_of}
use Rattle.table_rules.specs.Objects.{is_further}
use Rattle.table_rules.specs.Records.{faults_by_itself, faults_of_field, field_in, number_in, unless}
use Rattle.table_rules.specs.declared.fault.LoadFault.TheVariants.{FieldCount}
use Rattle.table_rules.specs.declared.fault.LoadFault.{LoadFault}
use Rattle.table_rules.specs.declared.limits.TheConstants.{ID_MOST}
use Rattle.record_text.specs.Faults.{faults_from, first_of, id_faults}
use Rattle.record_text.proofs.Firsts.{HasExtra, all_extra, first_behind, first_front}
use Rattle.source_rules.specs.Sources.{IsSource}
use Rattle.source_rules.specs.SourceRecords.{source_form, source_of}
use Rattle.source_rules.proofs.Accepted.{bound_from, least_from}
use Rattle.source_load.specs.SourceFields.{ids_faults}

abbrev Faults : Type 0
Faults = List LoadFault

-- the extra columns of the source table are those of a form
source_extra : HasExtra source_form
source_extra = record { least = least_from; most = bound_from }

-- the faults of a record with as many fields as the header: those of its ids and of its extra fields
pub own_parts : (row : ℕ) (fields : List (List ℕ)) → 2 ≤ length fields
    → faults_by_itself source_form (length fields) row fields ≡ ids_faults row fields ++ faults_from row 2 fields
own_parts row fields two =
    let count : (length fields == length fields) ≡ true = grind (arith) in
    let e : length fields ≡ suc (suc (length fields - 2)) = omega (arith, two) in
    let of : ℕ → Faults = λ col. faults_of_field source_form row col (field_in fields col) in
    let all = ap (λ n. flat_map of (range_with_len 0 n)) e in
    ap (λ t. unless t (FieldCount row (length fields)) ++ flat_map of (range_with_len 0 (length fields)) ++ []) count
    ∙ (append-nil (flat_map of (range_with_len 0 (length fields)))
    ∙ (all
    ∙ (ap (λ l. id_faults row 0 fields ++ (id_faults row 1 fields ++ l)) (all_extra source_form source_extra row fields)
    ∙ sym (append_assoc (id_faults row 0 fields) (id_faults row 1 fields) (faults_from row 2 fields)))))

-- a record without a fault in its ids and in its extra fields has none
pub own_none : (row : ℕ) (fields : List (List ℕ)) → 2 ≤ length fields → ids_faults row fields ≡ [] → faults_from row 2 fields ≡ []
    → faults_by_itself source_form (length fields) row fields ≡ []
own_none row fields two ids cells = own_parts row fields two ∙ rw (ids, cells) refl

-- the first fault of its ids is its first
pub own_ids : (row : ℕ) (fields : List (List ℕ)) (f : LoadFault) → 2 ≤ length fields → first_of (ids_faults row fields) ≡ Some f
    → first_of (faults_by_itself source_form (length fields) row fields) ≡ Some f
own_ids row fields f two h = ap first_of (own_parts row fields two) ∙ first_front (ids_faults row fields) (faults_from row 2 fields) f h

-- if its ids have none, the first fault of its extra fields is its first
pub own_behind : (row : ℕ) (fields : List (List ℕ)) (f : LoadFault) → 2 ≤ length fields → ids_faults row fields ≡ []
    → first_of (faults_from row 2 fields) ≡ Some f → first_of (faults_by_itself source_form (length fields) row fields) ≡ Some f
own_behind row fields f two ids h = ap first_of (own_parts row fields two) ∙ first_behind (ids_faults row fields) (faults_from row 2 fields) f ids h

-- the source of a record whose values are in their ranges is within its limits
pub within_limits : (fields : List (List ℕ)) (id object : ℤ) (cells : List (Option ℤ)) → 2 ≤ length fields → length fields ≤ 14
    → id ≡ number_in fields 0 → object ≡ number_in fields 1 → pos 0 ≤ℤ id → id ≤ℤ pos ID_MOST → pos 0 ≤ℤ object → object ≤ℤ pos ID_MOST
    → cells ≡ map int_of (drop 2 fields) → list_all is_further cells ≡ true → IsSource (source_of fields)
within_limits fields id object cells two few is_id is_object low high object_low object_high is_cells range = record {
  id = subst (λ z. pos 0 ≤ℤ z) is_id low;
  most = subst (λ z. z ≤ℤ pos ID_MOST) is_id high;
  object = subst (λ z. pos 0 ≤ℤ z) is_object object_low;
  object_most = subst (λ z. z ≤ℤ pos ID_MOST) is_object object_high;
  further = ap (list_all is_further) (sym is_cells) ∙ range;
  few = omega (arith, few, length-map (drop 2 fields) int_of, length-drop 2 fields);
}
