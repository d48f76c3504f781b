-- The first fault of lists of faults, one after the other.
use Rattle.std.proofs.Common.{◌≡◌, ◌∙◌, sym, refl, ap, ℕ, ℤ, pos, neg_ℤ, ◌+◌, ◌-◌, ◌<◌, ◌≤◌, zero, suc, arith, List, [], ◌∷◌, ◌++◌, length, nat_le, Option, Some, Result, Ok, Err, true, map, drop}
use Rattle.std.specs.List.{flat_map, range_with_len, list_all}
use Rattle.std.specs.Prelude.{IfErr}
use Rattle.std.proofs.lemmas.Option.{none-some}
use Rattle.std.proofs.lemmas.List.{drop_more}
use Rattle.std.proofs.lemmas.List.Folds.{list_all-append}
use Rattle.std.proofs.Math.Seq.{append_snoc}
use Rattle.sky_io.specs.Stops.{IfBad}
use Rattle.sky_io.specs.declared.Stop.{Stop}
use Rattle.sky_io.specs.declared.Stop.TheVariants as stop
use Rattle.text_rules.specs.Numbers.{int_of}
use Rattle.table_rules.specs.declared.fault.LoadFault.{LoadFault}
use Rattle.table_rules.specs.declared.limits.TheConstants.{FURTHER_MOST}
use Rattle.table_rules.specs.Records.{faults_of_field, field_in}
use Rattle.table_rules.specs.Objects.{is_further}
use Rattle.table_rules.specs.Forms.{Form}
use Rattle.record_text.specs.Faults.{cell_faults, faults_from, first_of}

abbrev Faults : Type 0
Faults = List LoadFault

-- the first of the faults in front is the first of all
pub first_front : (xs ys : Faults) (f : LoadFault) → first_of xs ≡ Some f → first_of (xs ++ ys) ≡ Some f
first_front [] ys f h = absurd (none-some f h)
first_front (x ∷ xs) ys f h = h

-- where there is none in front, the first of those behind is
pub first_behind : (xs ys : Faults) (f : LoadFault) → xs ≡ [] → first_of ys ≡ Some f → first_of (xs ++ ys) ≡ Some f
first_behind xs ys f none h = rw none h

-- where neither has a fault, both have none
pub none_of_two : (xs ys : Faults) → xs ≡ [] → ys ≡ [] → xs ++ ys ≡ []
none_of_two xs ys a b = rw (a, b) refl

-- one place, and those behind it
pub one_more : (of : ℕ → Faults) (col n : ℕ) → col < n → flat_map of (range_with_len col (n - col)) ≡ of col ++ flat_map of (range_with_len (col + 1) (n - (col + 1)))
one_more of col n low =
    let e : n - col ≡ suc (n - (col + 1)) = omega (arith, low) in
    ap (λ m. flat_map of (range_with_len col m)) e

-- the fields from a column on are that field and those behind it
pub faults_step : (row col : ℕ) (fields : List (List ℕ)) → col < length fields
    → faults_from row col fields ≡ cell_faults row col (field_in fields col) ++ faults_from row (col + 1) fields
faults_step row col fields low = one_more (λ c. cell_faults row c (field_in fields c)) col (length fields) low

-- a field without a fault leaves the faults behind it
pub cell_kept : (row col : ℕ) (fields : List (List ℕ)) → col < length fields → cell_faults row col (field_in fields col) ≡ []
    → faults_from row (col + 1) fields ≡ faults_from row col fields
cell_kept row col fields low none =
    sym (ap (λ l. l ++ faults_from row (col + 1) fields) none) ∙ sym (faults_step row col fields low)

-- the first fault of a field is that of the fields from it on
pub cell_refused : (row col : ℕ) (fields : List (List ℕ)) (f : LoadFault) → col < length fields → first_of (cell_faults row col (field_in fields col)) ≡ Some f
    → first_of (faults_from row col fields) ≡ Some f
cell_refused row col fields f low first =
    ap first_of (faults_step row col fields low) ∙ first_front (cell_faults row col (field_in fields col)) (faults_from row (col + 1) fields) f first

-- one value more after those so far
pub said_more : (cells new : List (Option ℤ)) (col : ℕ) (fields : List (List ℕ)) → col < length fields
    → new ≡ cells ++ int_of (field_in fields col) ∷ [] → new ++ map int_of (drop (col + 1) fields) ≡ cells ++ map int_of (drop col fields)
said_more cells new col fields low is =
    ap (λ l. l ++ map int_of (drop (col + 1) fields)) is
    ∙ (append_snoc cells (int_of (field_in fields col)) (map int_of (drop (col + 1) fields))
    ∙ ap (λ l. cells ++ map int_of l) (sym (drop_more fields col [] low)))

pub range_more : (cells new : List (Option ℤ)) (cell : Option ℤ) → new ≡ cells ++ cell ∷ [] → is_further cell ≡ true → list_all is_further cells ≡ true → list_all is_further new ≡ true
range_more cells new cell is one h = ap (list_all is_further) is ∙ (list_all-append is_further cells (cell ∷ []) ∙ rw (h, one) refl)

-- A form whose columns from n on are extra ones: NULL where a field is empty, else in the range of extra values.
pub record HasExtra {R : Type 0} (form : Form R) : Type 0 where
  pub least : (col : ℕ) → length form.first ≤ col → form.least col ≡ neg_ℤ (pos FURTHER_MOST)
  pub most : (col : ℕ) → length form.first ≤ col → form.most col ≡ pos FURTHER_MOST

module _ {R : Type 0} (form : Form R) (extra : HasExtra form) where
  -- an extra field has the faults of its form
  one_extra : (row col : ℕ) (field : List ℕ) → length form.first ≤ col → faults_of_field form row col field ≡ cell_faults row col field
  one_extra row col field low =
      let e : nat_le (length form.first) col ≡ true = grind (arith) in
      rw (e, extra.least col low, extra.most col low) refl

  -- and so have all extra fields
  some_extra : (row : ℕ) (fields : List (List ℕ)) (col n : ℕ) → length form.first ≤ col
      → flat_map (λ c. faults_of_field form row c (field_in fields c)) (range_with_len col n) ≡ flat_map (λ c. cell_faults row c (field_in fields c)) (range_with_len col n)
  some_extra row fields col zero low = refl
  some_extra row fields col (suc n) low =
      ap (λ l. l ++ flat_map (λ c. faults_of_field form row c (field_in fields c)) (range_with_len (col + 1) n)) (one_extra row col (field_in fields col) low)
      ∙ ap (λ l. cell_faults row col (field_in fields col) ++ l) (some_extra row fields (col + 1) n (omega (arith, low)))

  pub all_extra : (row : ℕ) (fields : List (List ℕ))
      → flat_map (λ c. faults_of_field form row c (field_in fields c)) (range_with_len (length form.first) (length fields - length form.first)) ≡ faults_from row (length form.first) fields
  all_extra row fields = some_extra row fields (length form.first) (length fields - length form.first) (omega arith)

-- what holds of a call's own fault
pub bad_by : {A : Type 0} (result : Result A (Stop LoadFault)) (P Q : LoadFault → Type 0) → ((f : LoadFault) → P f → Q f)
    → IfErr result (λ stop. IfBad stop P) → IfErr result (λ stop. IfBad stop Q)
bad_by {A} (Ok a) P Q more h = tt
bad_by {A} (Err stop.Memory) P Q more h = tt
bad_by {A} (Err (stop.Bad f)) P Q more h = more f h
