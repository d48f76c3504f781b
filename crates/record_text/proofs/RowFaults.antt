-- The first fault of a record behind rows.
use Rattle.std.proofs.Common.{◌≡◌, refl, ℕ, ◌+◌, ◌<◌, ◌≤◌, arith, true, false, not, List, [], length, nat_lt, Some}
use Rattle.table_rules.specs.declared.fault.LoadFault.{LoadFault}
use Rattle.table_rules.specs.declared.fault.LoadFault.TheVariants.{Repeated, TooManyRows}
use Rattle.table_rules.specs.declared.limits.TheConstants.{ROWS_MOST}
use Rattle.table_rules.specs.Records.{faults_after, faults_by_itself, unless}
use Rattle.table_rules.specs.Forms.{Form}
use Rattle.table_rules.specs.IdOrder.{has_this_id}
use Rattle.record_text.specs.Faults.{first_of}
use Rattle.record_text.specs.Judged.{faults_alone}
use Rattle.record_text.proofs.Firsts.{first_front, first_behind, none_of_two}

abbrev Fields : Type 0
Fields = List (List ℕ)

room_for : (count : ℕ) → count < ROWS_MOST → unless (nat_lt count ROWS_MOST) TooManyRows ≡ []
room_for count low =
    let e : nat_lt count ROWS_MOST ≡ true = grind (arith) in
    rw e refl

module _ {R : Type 0} (form : Form R) where
  -- there are as many rows as there may be
  pub row_full : (width count : ℕ) (fields : Fields) → ROWS_MOST ≤ count → first_of (faults_alone form width count fields) ≡ Some TooManyRows
  row_full width count fields high =
      let e : nat_lt count ROWS_MOST ≡ false = grind (arith) in
      let full : first_of (unless (nat_lt count ROWS_MOST) TooManyRows) ≡ Some TooManyRows = rw e refl in
      first_front (unless (nat_lt count ROWS_MOST) TooManyRows) (faults_by_itself form width (count + 1) fields) TooManyRows full

  -- the record has a fault by itself
  pub row_wrong : (width count : ℕ) (fields : Fields) (f : LoadFault) → count < ROWS_MOST → first_of (faults_by_itself form width (count + 1) fields) ≡ Some f
      → first_of (faults_alone form width count fields) ≡ Some f
  row_wrong width count fields f low wrong =
      first_behind (unless (nat_lt count ROWS_MOST) TooManyRows) (faults_by_itself form width (count + 1) fields) f (room_for count low) wrong

  -- it has none
  pub row_right : (width count : ℕ) (fields : Fields) → count < ROWS_MOST → faults_by_itself form width (count + 1) fields ≡ [] → faults_alone form width count fields ≡ []
  row_right width count fields low own =
      none_of_two (unless (nat_lt count ROWS_MOST) TooManyRows) (faults_by_itself form width (count + 1) fields) (room_for count low) own

  -- the first fault that a record has whatever the ids are is its first
  pub alone_first : (width : ℕ) (rows : List R) (fields : Fields) (f : LoadFault) → first_of (faults_alone form width (length rows) fields) ≡ Some f
      → first_of (faults_after form width rows fields) ≡ Some f
  alone_first width rows fields f wrong = first_front (faults_alone form width (length rows) fields) _ f wrong

  -- where there is none, an earlier row has its id
  pub row_again : (width : ℕ) (rows : List R) (fields : Fields) → faults_alone form width (length rows) fields ≡ []
      → has_this_id form.id rows (form.id (form.row fields)) ≡ true → first_of (faults_after form width rows fields) ≡ Some (Repeated (length rows + 1) (form.id (form.row fields)))
  row_again width rows fields alone again =
      let fault = Repeated (length rows + 1) (form.id (form.row fields)) in
      let here : first_of (unless (not (has_this_id form.id rows (form.id (form.row fields)))) fault) ≡ Some fault = rw again refl in
      first_behind (faults_alone form width (length rows) fields) _ fault alone here

  -- or none has it
  pub row_none : (width : ℕ) (rows : List R) (fields : Fields) → faults_alone form width (length rows) fields ≡ []
      → has_this_id form.id rows (form.id (form.row fields)) ≡ false → faults_after form width rows fields ≡ []
  row_none width rows fields alone apart =
      let fault = Repeated (length rows + 1) (form.id (form.row fields)) in
      let here : unless (not (has_this_id form.id rows (form.id (form.row fields)))) fault ≡ [] = rw apart refl in
      none_of_two (faults_alone form width (length rows) fields) _ alone here
