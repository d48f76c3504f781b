-- The faults of a header, column by column.
use Rattle.std.proofs.Common.{◌≡◌, ◌∙◌, sym, ap, ℕ, ◌+◌, ◌<◌, ◌≤◌, arith, true, false, List, [], ◌∷◌, ◌++◌, length, take, nat_lt, Some}
use Rattle.std.proofs.lemmas.List.{take_more}
use Rattle.table_rules.specs.declared.fault.LoadFault.TheVariants.{Header}
use Rattle.table_rules.specs.Records.{field_in, right_in, unless}
use Rattle.table_rules.specs.Forms.{Form, may_follow}
use Rattle.record_text.specs.Faults.{first_of, header_fault, header_faults_from}
use Rattle.record_text.proofs.Firsts.{one_more}

abbrev Fields : Type 0
Fields = List (List ℕ)

module _ {R : Type 0} (form : Form R) where
  pub faults_step : (header : Fields) (col : ℕ) → col < length header → header_faults_from form col header ≡ header_fault form header col ++ header_faults_from form (col + 1) header
  faults_step header col low = one_more (header_fault form header) col (length header) low

  further_right : (header columns : Fields) (col : ℕ) → length form.first ≤ col → columns ≡ take col header → right_in form header col ≡ may_follow form columns (field_in header col)
  further_right header columns col low h =
      let e : nat_lt col (length form.first) ≡ false = grind (arith) in
      rw e (ap (λ l. may_follow form l (field_in header col)) (sym h))

  -- the name of a field that can follow the columns before it leaves the faults after it
  pub column_kept : (header columns : Fields) (col : ℕ) → length form.first ≤ col → col < length header → columns ≡ take col header
      → may_follow form columns (field_in header col) ≡ true → header_faults_from form (col + 1) header ≡ header_faults_from form col header
  column_kept header columns col low there h right =
      let none = ap (λ b. unless b (Header (col + 1))) (further_right header columns col low h ∙ right) in
      sym (faults_step header col there ∙ ap (λ l. l ++ header_faults_from form (col + 1) header) none)

  -- one that cannot is the first fault from it on
  pub column_refused : (header columns : Fields) (col : ℕ) → length form.first ≤ col → col < length header → columns ≡ take col header
      → may_follow form columns (field_in header col) ≡ false → first_of (header_faults_from form col header) ≡ Some (Header (col + 1))
  column_refused header columns col low there h wrong =
      let one = ap (λ b. unless b (Header (col + 1))) (further_right header columns col low h ∙ wrong) in
      ap first_of (faults_step header col there ∙ ap (λ l. l ++ header_faults_from form (col + 1) header) one)

-- one column more
pub column_put : (header columns new : Fields) (col : ℕ) → col < length header → columns ≡ take col header
    → new ≡ columns ++ field_in header col ∷ [] → new ≡ take (col + 1) header
column_put header columns new col there h is =
    is ∙ (ap (λ l. l ++ field_in header col ∷ []) h ∙ sym (take_more header col [] there))
