-- The first fields of a header, which are the names of the columns that every table of a form has.
use Rattle.std.proofs.Common.{◌≡◌, ◌∙◌, sym, refl, ap, subst, ℕ, ◌+◌, ◌-◌, ◌<◌, ◌≤◌, zero, suc, max, arith, true, false, List, [], ◌∷◌, ◌++◌, length, take, drop, nat_lt, slice_get, Some}
use Rattle.std.specs.List.{flat_map, list_all, range_with_len}
use Rattle.std.specs.Str.{bytes_eq}
use Rattle.std.proofs.lemmas.Bool.{and_parts}
use Rattle.std.proofs.lemmas.List.{length-append, length-take-le, take_all}
use Rattle.std.proofs.lemmas.Option.{same_Some}
use Rattle.std.proofs.lemmas.Slice.Eq.{bytes_eq-Decides}
use Rattle.table_rules.specs.declared.fault.LoadFault.{LoadFault}
use Rattle.table_rules.specs.declared.fault.LoadFault.TheVariants.{Header}
use Rattle.table_rules.specs.Forms.{Form}
use Rattle.table_rules.specs.Records.{faults_of_header, field_in, right_in, unless}
use Rattle.record_text.specs.Faults.{first_of, header_fault, header_faults_from}
use Rattle.record_text.proofs.Firsts.{first_front, one_more}
use Rattle.table_load.specs.Names.{is_filled}

abbrev pub Fields : Type 0
Fields = List (List ℕ)

pub same_bytes : (xs ys : List ℕ) → bytes_eq xs ys ≡ true → xs ≡ ys
same_bytes xs ys h = (bytes_eq-Decides xs ys).0 h

-- the name of one of the first columns
pub name_is : (first names : Fields) (col : ℕ) (name : List ℕ) → col < length first → slice_get (first ++ names) col ≡ Some name → name ≡ field_in first col
name_is [] names col name low h = absurd (omega (arith, low))
name_is (x ∷ first) names zero name low h = sym (same_Some x name h)
name_is (x ∷ first) names (suc col) name low h = name_is first names col name (omega (arith, low)) h

-- such a name is not empty
pub filled_name : (first : Fields) (col : ℕ) → list_all is_filled first ≡ true → col < length first → 0 < length (field_in first col)
filled_name [] col h low = absurd (omega (arith, low))
filled_name (x ∷ first) zero h low = let parts = and_parts (is_filled x) (list_all is_filled first) h in grind (arith)
filled_name (x ∷ first) (suc col) h low = filled_name first col (and_parts (is_filled x) (list_all is_filled first) h).1 (omega (arith, low))

-- a field that is not empty is in its record
pub field_there : (fields : Fields) (col : ℕ) → 0 < length (field_in fields col) → col < length fields
field_there [] col h = absurd (omega (arith, h))
field_there (x ∷ fields) zero h = omega arith
field_there (x ∷ fields) (suc col) h = let low = field_there fields col h in omega (arith, low)

module _ {R : Type 0} (form : Form R) where
  -- the faults of a header from one of its first columns on
  abbrev pub header_left : Fields → ℕ → List LoadFault
  header_left header col = flat_map (header_fault form header) (range_with_len col (max (length form.first) (length header) - col))

  left_step : (header : Fields) (col : ℕ) → col < length form.first → header_left header col ≡ header_fault form header col ++ header_left header (col + 1)
  left_step header col low = one_more (header_fault form header) col (max (length form.first) (length header)) (omega (arith, low))

  -- a field that is the name of its column leaves the faults after it
  pub left_kept : (header : Fields) (col : ℕ) → col < length form.first → header_fault form header col ≡ [] → header_left header (col + 1) ≡ header_left header col
  left_kept header col low none = sym (left_step header col low ∙ ap (λ l. l ++ header_left header (col + 1)) none)

  -- the first fault of a field is that of the fields from it on
  pub left_refused : (header : Fields) (col : ℕ) (f : LoadFault) → col < length form.first → first_of (header_fault form header col) ≡ Some f
      → header_left header col ≡ faults_of_header form header → first_of (faults_of_header form header) ≡ Some f
  left_refused header col f low h all =
      ap first_of (sym all) ∙ (ap first_of (left_step header col low) ∙ first_front (header_fault form header col) (header_left header (col + 1)) f h)

  -- after the first columns the extra ones are left
  pub left_further : (header : Fields) (n : ℕ) → n ≡ length form.first → n ≤ length header → header_left header n ≡ faults_of_header form header
      → header_faults_from form (length form.first) header ≡ faults_of_header form header
  left_further header n e long all =
      let same : max (length form.first) (length header) ≡ length header = omega (arith, e, long) in
      ap (λ k. header_faults_from form k header) (sym e)
      ∙ (ap (λ m. flat_map (header_fault form header) (range_with_len n (m - n))) (sym same) ∙ all)

  -- no extra column is left
  pub none_left : (header : Fields) (n : ℕ) → length header ≤ n → header_faults_from form n header ≡ header_faults_from form (length form.first) header
      → header_faults_from form (length form.first) header ≡ []
  none_left header n all h =
      let none : length header - n ≡ 0 = omega (arith, all) in
      sym h ∙ ap (λ m. flat_map (header_fault form header) (range_with_len n m)) none

  -- there are as many columns as fields were read
  pub columns_so_far : (header names : Fields) (col : ℕ) → col < length header → form.first ++ names ≡ take col header → length form.first + length names ≡ col
  columns_so_far header names col low h =
      omega (arith, length-append form.first names, ap length h, length-take-le col header (omega (arith, low)))

  -- if all fields are names of columns, the extra ones are those after the first
  pub all_names : (header names : Fields) (n : ℕ) → length header ≤ n → form.first ++ names ≡ take n header → names ≡ drop (length form.first) header
  all_names header names n all h = sym (drop_first form.first names) ∙ ap (drop (length form.first)) (h ∙ take_all n header all)
    where
      drop_first : (first names : Fields) → drop (length first) (first ++ names) ≡ names
      drop_first [] names = refl
      drop_first (x ∷ first) names = drop_first first names

  right_first : (header : Fields) (col : ℕ) (name : List ℕ) → col < length form.first → name ≡ field_in form.first col → right_in form header col ≡ bytes_eq (field_in header col) name
  right_first header col name low is =
      let e : nat_lt col (length form.first) ≡ true = grind (arith) in
      rw e (ap (bytes_eq (field_in header col)) (sym is))

  -- a field that is the name of its column has no fault
  pub name_kept : (header names : Fields) (col : ℕ) (name : List ℕ) → col < length form.first → slice_get (form.first ++ names) col ≡ Some name
      → bytes_eq (field_in header col) name ≡ true → header_fault form header col ≡ []
  name_kept header names col name low at same =
      ap (λ b. unless b (Header (col + 1))) (right_first header col name low (name_is form.first names col name low at) ∙ same)

  -- one that is not has its fault
  pub name_refused : (header names : Fields) (col : ℕ) (name : List ℕ) → col < length form.first → slice_get (form.first ++ names) col ≡ Some name
      → bytes_eq (field_in header col) name ≡ false → first_of (header_fault form header col) ≡ Some (Header (col + 1))
  name_refused header names col name low at other =
      ap (λ b. first_of (unless b (Header (col + 1)))) (right_first header col name low (name_is form.first names col name low at) ∙ other)

  -- it is the name of the first column
  pub name_same : (header names : Fields) (col : ℕ) (name : List ℕ) → col < length form.first → slice_get (form.first ++ names) col ≡ Some name
      → bytes_eq (field_in header col) name ≡ true → field_in header col ≡ field_in form.first col
  name_same header names col name low at same = same_bytes (field_in header col) name same ∙ name_is form.first names col name low at

  -- and it is there, since no name is empty
  pub name_there : list_all is_filled form.first ≡ true → (header names : Fields) (col : ℕ) (name : List ℕ) → col < length form.first
      → slice_get (form.first ++ names) col ≡ Some name → bytes_eq (field_in header col) name ≡ true → col < length header
  name_there named header names col name low at same =
      field_there header col (subst (λ field. 0 < length field) (sym (name_same header names col name low at same)) (filled_name form.first col named low))
