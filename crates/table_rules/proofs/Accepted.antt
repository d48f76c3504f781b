-- Records that are accepted have no faults, so each of their rows keeps the limits and has an id of its own.
use Rattle.std.proofs.Common.{◌≡◌, ◌∙◌, sym, refl, ap, subst, ℕ, ◌+◌, ◌<◌, ◌≤◌, zero, suc, arith, inl, inr, Bool, true, false, not, ◌==◌, nat_lt, List, [], ◌∷◌, ◌++◌, length, map, get_or, take, drop, Option, None, Some, Ok, ℤ, ltb-true, max}
use Rattle.std.specs.Prelude.{All}
use Rattle.std.specs.List.{IsDistinct, flat_map, list_all, range_with_len}
use Rattle.std.specs.Ordering.{int_eq}
use Rattle.std.proofs.lemmas.Bool.{and_parts, cases_lt}
use Rattle.std.proofs.lemmas.Cmp.{int_eq_equiv}
use Rattle.std.proofs.lemmas.List.{get_or-map, get_or-drop, length-map, length-drop, length-take-le, map_more, take_all, map-append}
use Rattle.std.proofs.lemmas.List.Sums.{list_all-from_AllPass}
use Rattle.std.proofs.lemmas.Map.Keys.{IsDistinct-push}
use Rattle.text_rules.specs.Numbers.{int_of}
use Rattle.table_rules.specs.declared.limits.TheConstants.{FURTHER_COLUMNS_MOST, ROWS_MOST}
use Rattle.table_rules.specs.declared.fault.LoadFault.TheVariants.{Range, TooManyRows, FieldCount, Repeated, Header}
use Rattle.table_rules.specs.Objects.{is_further}
use Rattle.table_rules.specs.Forms.{Form}
use Rattle.table_rules.specs.IdOrder.{HaveDistinctIds, has_this_id, in_id_order}
use Rattle.table_rules.specs.Records.{faults_after, faults_by_itself, faults_of_field, faults_of_header, faults_of_number, faults_of_rows, field_in, in_range, null_in, right_in, table_of, unless}
use Rattle.table_rules.proofs.Faults.{judged_ok, none_of_both, right_unless, none_in}

abbrev pub Fields : Type 0
Fields = List (List ℕ)

not_true : (b : Bool) → not b ≡ true → b ≡ false
not_true true h = absurd (cc h)
not_true false h = refl

same_number : (m n : ℕ) → (m == n) ≡ true → m ≡ n
same_number m n h = grind (arith)

-- A data row without a fault.
pub record IsRight {R : Type 0} (form : Form R) (width : ℕ) (earlier : List R) (fields : Fields) : Type 0 where
  pub few : length earlier < ROWS_MOST
  pub wide : length fields ≡ width
  pub each : (col : ℕ) → col < length fields → faults_of_field form (length earlier + 1) col (field_in fields col) ≡ []
  pub apart : has_this_id form.id earlier (form.id (form.row fields)) ≡ false
  pub whole : form.whole (length earlier + 1) fields ≡ []

module _ {R : Type 0} (form : Form R) where
  -- a header that is right has not too many fields
  pub few_fields : (header : Fields) → faults_of_header form header ≡ [] → length header ≤ length form.first + FURTHER_COLUMNS_MOST
  few_fields header h =
      let most = length form.first + FURTHER_COLUMNS_MOST in
      elim (cases_lt most (length header)) [
        | inl long ↦
            let right = right_unless (right_in form header most) (Header (most + 1)) (none_in (λ col. unless (right_in form header col) (Header (col + 1))) (max (length form.first) (length header)) most h (omega (arith, long))) in
            let past : nat_lt most (length form.first) ≡ false = grind (arith) in
            let low = ltb-true (length (take most header)) most (and_parts _ _ (and_parts _ _ (rw past at right)).0).0 in
            absurd (omega (arith, low, length-take-le most header (omega (arith, long))))
        | inr short ↦ short
      ]

  is_right : (width : ℕ) (earlier : List R) (fields : Fields) → faults_after form width earlier fields ≡ [] → IsRight form width earlier fields
  is_right width earlier fields h =
      let row = length earlier + 1 in
      let id = form.id (form.row fields) in
      let full = unless (nat_lt (length earlier) ROWS_MOST) TooManyRows in
      let own = faults_by_itself form width row fields in
      let again = unless (not (has_this_id form.id earlier id)) (Repeated row id) in
      let count = unless (length fields == width) (FieldCount row (length fields)) in
      let cells = flat_map (λ col. faults_of_field form row col (field_in fields col)) (range_with_len 0 (length fields)) in
      let outer = none_of_both (full ++ own) again h in
      let front = none_of_both full own outer.0 in
      let inner = none_of_both (count ++ cells) (form.whole row fields) front.1 in
      let first = none_of_both count cells inner.0 in
      record {
        few = ltb-true _ _ (right_unless _ TooManyRows front.0);
        wide = same_number _ _ (right_unless _ (FieldCount row (length fields)) first.0);
        each = λ col low. none_in (λ col. faults_of_field form row col (field_in fields col)) (length fields) col first.1 low;
        apart = not_true _ (right_unless _ (Repeated row id) outer.1);
        whole = inner.1;
      }

  -- each data row of accepted records is right
  each_is_right : (width : ℕ) (rows : List Fields) (i : ℕ) → faults_of_rows form width rows ≡ [] → i < length rows → IsRight form width (map form.row (take i rows)) (get_or rows i [])
  each_is_right width rows i h low =
      is_right width (map form.row (take i rows)) (get_or rows i []) (none_in (λ i. faults_after form width (map form.row (take i rows)) (get_or rows i [])) (length rows) i h low)

  -- no two of the first n data rows have one id
  distinct_front : (width : ℕ) (rows : List Fields) → faults_of_rows form width rows ≡ [] → (n : ℕ) → n ≤ length rows → HaveDistinctIds form.id (map form.row (take n rows))
  unfolding IsDistinct
  distinct_front width rows h zero low = tt
  distinct_front width rows h (suc n) low =
      let before = distinct_front width rows h n (omega (arith, low)) in
      let right = each_is_right width rows n h (omega (arith, low)) in
      let new = IsDistinct-push int_eq_equiv (map form.id (map form.row (take n rows))) (form.id (form.row (get_or rows n []))) before right.apart in
      let e = ap (map form.id) (map_more form.row rows n [] (omega (arith, low))) ∙ map-append form.id (map form.row (take n rows)) (form.row (get_or rows n []) ∷ []) in
      let more : n + 1 ≡ suc n = omega arith in
      subst (λ m. HaveDistinctIds form.id (map form.row (take m rows))) more (subst (IsDistinct int_eq) (sym e) new)

  -- no two of the data rows of accepted records have one id
  pub distinct_rows : (width : ℕ) (rows : List Fields) → faults_of_rows form width rows ≡ [] → HaveDistinctIds form.id (map form.row rows)
  distinct_rows width rows h = subst (λ l. HaveDistinctIds form.id (map form.row l)) (take_all (length rows) rows (omega arith)) (distinct_front width rows h (length rows) (omega arith))

  -- there are not too many of them
  pub few_rows : (width : ℕ) (rows : List Fields) → faults_of_rows form width rows ≡ [] → length rows ≤ ROWS_MOST
  few_rows width [] h = omega arith
  few_rows width (r ∷ rs) h =
      let right = each_is_right width (r ∷ rs) (length rs) h (omega arith) in
      omega (arith, right.few, length-map (take (length rs) (r ∷ rs)) form.row, length-take-le (length rs) (r ∷ rs) (omega arith))

  -- what holds of each right row holds of all rows
  pub each_row : (width : ℕ) (rows : List Fields) → faults_of_rows form width rows ≡ [] → (P : R → Type 0)
      → ((earlier : List R) (fields : Fields) → IsRight form width earlier fields → P (form.row fields)) → All P (map form.row rows)
  each_row width rows h P each k d within =
      let inside : k < length rows = omega (arith, within, length-map rows form.row) in
      subst P (sym (get_or-map form.row rows k [] d inside)) (each (map form.row (take k rows)) (get_or rows k []) (each_is_right width rows k h inside))

  -- accepted records have a header and data rows without a fault
  pub no_fault : {T : Type 0} (made : List (List ℕ) → List R → T) (header : Fields) (rows : List Fields) (t : T) → table_of form made (header ∷ rows) ≡ Ok t
      → (faults_of_header form header ≡ []) × (faults_of_rows form (length header) rows ≡ []) × (made (drop (length form.first) header) (in_id_order form.id (map form.row rows)) ≡ t)
  no_fault {T} made header rows t h =
      let (none, same) = judged_ok (faults_of_header form header ++ faults_of_rows form (length header) rows) (made (drop (length form.first) header) (in_id_order form.id (map form.row rows))) t h in
      let both = none_of_both (faults_of_header form header) (faults_of_rows form (length header) rows) none in
      (both.0, both.1, same)

  -- the number in a field that isn't NULL is there and in its range
  pub number_by : (row col : ℕ) (o : Option ℤ) → faults_of_number form row col o ≡ [] → (z : ℤ) × (o ≡ Some z) × (in_range form col z ≡ true)
  number_by row col None h = absurd (cc h)
  number_by row col (Some z) h = (z, refl, right_unless (in_range form col z) (Range row (col + 1) z) h)

  filled : (col b : ℕ) (bs : List ℕ) → null_in form col (b ∷ bs) ≡ false
  filled col b bs = grind (arith)

  -- an extra field without a fault is NULL or in its range
  further_by : (row col : ℕ) (field : List ℕ) → ((z : ℤ) → in_range form col z ≡ true → is_further (Some z) ≡ true)
      → faults_of_field form row col field ≡ [] → is_further (int_of field) ≡ true
  further_by row col [] within h = refl
  further_by row col (b ∷ bs) within h =
      let (z, e, inside) = number_by row col (int_of (b ∷ bs)) (rw (filled col b bs) at h) in
      ap is_further e ∙ within z inside

  -- the extra values of a right row are in their range, if the form's range in the extra columns is theirs
  pub further_right : (width : ℕ) (earlier : List R) (fields : Fields)
      → ((col : ℕ) (z : ℤ) → length form.first ≤ col → in_range form col z ≡ true → is_further (Some z) ≡ true)
      → IsRight form width earlier fields → list_all is_further (map int_of (drop (length form.first) fields)) ≡ true
  further_right width earlier fields within right =
      let n = length form.first in
      let rest = drop n fields in
      list_all-from_AllPass is_further (map int_of rest) (λ k d low.
      let inside : k < length rest = omega (arith, low, length-map rest int_of) in
      let there : n + k < length fields = omega (arith, inside, length-drop n fields) in
      let e = get_or-map int_of rest k [] d inside ∙ ap int_of (get_or-drop n fields k []) in
      ap is_further e ∙ further_by (length earlier + 1) (n + k) (field_in fields (n + k)) (λ z. within (n + k) z (omega arith)) (right.each (n + k) there))
