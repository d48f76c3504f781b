-- The rows of records and their first fault, from the rows that were read and the first fault other than a repeated id.
use Rattle.std.proofs.Common.{◌≡◌, ◌∙◌, ⊎_elim, sym, refl, ap, subst, ℕ, ℤ, pos, ◌+◌, ◌-◌, ◌<◌, ◌≤◌, suc, arith, true, false, List, [], ◌∷◌, ◌++◌, length, map, take, get_or, Option, None, Some, Result, Ok, Err}
use Rattle.std.specs.List.{AllByRecursion, IsDistinct, list_any}
use Rattle.std.specs.Ordering.{int_eq}
use Rattle.std.proofs.lemmas.Int.{ints}
use Rattle.std.proofs.lemmas.List.{append-nil, length-append, length-map, map-append}
use Rattle.std.proofs.Math.Nat.{eq-or-lt_of_le}
use Rattle.std.proofs.Math.Seq.{append_snoc, get_or-append_seam, take-append-add, take-append_seam}
use Rattle.table_rules.specs.declared.fault.LoadFault.{LoadFault}
use Rattle.table_rules.specs.declared.fault.LoadFault.TheVariants.{Repeated}
use Rattle.table_rules.specs.Forms.{Form}
use Rattle.table_rules.specs.IdOrder.{HaveDistinctIds, has_this_id}
use Rattle.table_rules.specs.Records.{faults_after}
use Rattle.table_rules.specs.Repeats.{IsFirstRepeat, IsRepeat}
use Rattle.record_text.specs.Faults.{first_of}
use Rattle.record_text.specs.Judged.{and_then, fault_alone, faults_alone, first_or, if_right, rows_alone, rows_behind}
use Rattle.record_text.proofs.Judgements.{judged_first, judged_none}
use Rattle.record_text.proofs.RowFaults.{alone_first, row_again, row_none}

abbrev Fields : Type 0
Fields = List (List ℕ)

abbrev Records : Type 0
Records = List Fields

-- what rows are of which no two have one id, if this fault was found after them
abbrev pub ending : {R : Type 0} → Option LoadFault → List R → Result (List R) LoadFault
ending {R} None rows = Ok rows
ending {R} (Some f) rows = Err f

other_way : (x y : ℤ) → int_eq x y ≡ false → int_eq y x ≡ false
other_way x y h = grind (arith, ints)

-- what holds of all holds of one between others
of_one : (P : ℤ → Type 0) (ids : List ℤ) (id : ℤ) (more : List ℤ) → AllByRecursion P (ids ++ id ∷ more) → P id
of_one P [] id more h = h.0
of_one P (a ∷ ids) id more h = of_one P ids id more h.1

-- of ids no two of which are equal none is equal to one before it
apart_before : (ids : List ℤ) (id : ℤ) (more : List ℤ) → IsDistinct int_eq (ids ++ id ∷ more) → list_any (int_eq id) ids ≡ false
unfolding IsDistinct
apart_before [] id more h = refl
apart_before (a ∷ ids) id more h =
    let apart = other_way a id (of_one (λ b. int_eq a b ≡ false) ids id more h.0) in
    rw apart (apart_before ids id more h.1)

one_longer : {R : Type 0} (rows : List R) (r : R) (count : ℕ) → count ≡ length rows → count + 1 ≡ length (rows ++ r ∷ [])
one_longer {R} rows r count is = omega (arith, is, length-append rows (r ∷ []))

module _ {R : Type 0} (form : Form R) where
  behind_more : (width : ℕ) (rows : List R) (fields : Fields) (rest : Records) → faults_after form width rows fields ≡ []
      → rows_behind form width rows (fields ∷ rest) ≡ rows_behind form width (rows ++ form.row fields ∷ []) rest
  unfolding rows_behind
  behind_more width rows fields rest none = ap (λ o. and_then o (λ r. rows_behind form width (rows ++ r ∷ []) rest)) (judged_none (faults_after form width rows fields) (form.row fields) none)

  behind_fault : (width : ℕ) (rows : List R) (fields : Fields) (rest : Records) (f : LoadFault) → first_of (faults_after form width rows fields) ≡ Some f
      → rows_behind form width rows (fields ∷ rest) ≡ Err f
  unfolding rows_behind
  behind_fault width rows fields rest f first = ap (λ o. and_then o (λ r. rows_behind form width (rows ++ r ∷ []) rest)) (judged_first (faults_after form width rows fields) (form.row fields) f first)

  ids_around : (rows : List R) (r : R) (more : List R) → map form.id (rows ++ r ∷ more) ≡ map form.id rows ++ (form.id r) ∷ map form.id more
  ids_around rows r more = map-append form.id rows (r ∷ more)

  -- the row has an id that none before it has
  new_by : (rows : List R) (r : R) (more all : List R) → all ≡ rows ++ r ∷ more → HaveDistinctIds form.id all → has_this_id form.id rows (form.id r) ≡ false
  new_by rows r more all is apart =
      apart_before (map form.id rows) (form.id r) (map form.id more) (subst (IsDistinct int_eq) (ap (map form.id) is ∙ ids_around rows r more) apart)

  apart_step : (width count : ℕ) (rows all : List R) (fields : Fields) (rest : Records) (faults : List LoadFault) → faults_alone form width count fields ≡ faults
      → count ≡ length rows → all ≡ rows ++ if_right faults (form.row fields ∷ rows_alone form width (count + 1) rest) → HaveDistinctIds form.id all
      → (count + 1 ≡ length (rows ++ form.row fields ∷ []) → all ≡ (rows ++ form.row fields ∷ []) ++ rows_alone form width (count + 1) rest
      → rows_behind form width (rows ++ form.row fields ∷ []) rest ≡ ending (fault_alone form width (count + 1) rest) all)
      → rows_behind form width rows (fields ∷ rest) ≡ ending (first_or faults (fault_alone form width (count + 1) rest)) all
  apart_step width count rows all fields rest (f ∷ later) e len is apart more =
      behind_fault width rows fields rest f (alone_first form width rows fields f (ap (λ n. first_of (faults_alone form width n fields)) (sym len) ∙ ap first_of e))
  apart_step width count rows all fields rest [] e len is apart more =
      let none = row_none form width rows fields (ap (λ n. faults_alone form width n fields) (sym len) ∙ e) (new_by rows (form.row fields) (rows_alone form width (count + 1) rest) all is apart) in
      behind_more width rows fields rest none ∙ more (one_longer rows (form.row fields) count len) (is ∙ sym (append_snoc rows (form.row fields) (rows_alone form width (count + 1) rest)))

  -- rows no two of which have one id are what the records are, up to the fault behind them
  pub apart_all : (width count : ℕ) (rows all : List R) (rest : Records) → count ≡ length rows → all ≡ rows ++ rows_alone form width count rest → HaveDistinctIds form.id all
      → rows_behind form width rows rest ≡ ending (fault_alone form width count rest) all
  unfolding rows_behind rows_alone fault_alone
  apart_all width count rows all [] len is apart = ap {B = Result (List R) LoadFault} (λ l. Ok l) (sym (is ∙ append-nil rows))
  apart_all width count rows all (fields ∷ rest) len is apart =
      apart_step width count rows all fields rest (faults_alone form width count fields) refl len is apart
      (λ longer moved. apart_all width (count + 1) (rows ++ form.row fields ∷ []) all rest longer moved apart)

  -- the fault of a repeated id in a place
  abbrev repeat_at : List R → ℕ → LoadFault
  repeat_at all place = Repeated (place + 1) (get_or (map form.id all) place (pos 0))

  -- a repeated id stands in a place
  no_place : (rows all : List R) (place : ℕ) → all ≡ rows ++ [] → IsFirstRepeat (map form.id all) place → length rows ≤ place → ⊥
  no_place rows all place is first low =
      omega (arith, ap length (is ∙ append-nil rows), length-map all form.id, first.there, low)

  -- the row in the place has an earlier one's id
  here_again : (rows : List R) (r : R) (more all : List R) (place : ℕ) → all ≡ rows ++ r ∷ more → IsFirstRepeat (map form.id all) place → length rows ≡ place
      → (has_this_id form.id rows (form.id r) ≡ true) × (repeat_at all place ≡ Repeated (length rows + 1) (form.id r))
  here_again rows r more all place is first at =
      let whole : map form.id all ≡ map form.id rows ++ (form.id r) ∷ map form.id more = ap (map form.id) is ∙ ids_around rows r more in
      let here : place ≡ length (map form.id rows) = omega (arith, at, length-map rows form.id) in
      let front : take place (map form.id all) ≡ map form.id rows = rw (whole, here) (take-append_seam (map form.id rows) ((form.id r) ∷ map form.id more)) in
      let id : get_or (map form.id all) place (pos 0) ≡ (form.id r) = rw (whole, here) (get_or-append_seam (map form.id rows) (form.id r) (map form.id more) (pos 0)) in (
        ap (λ l. list_any (int_eq (form.id r)) l) (sym front) ∙ (ap (λ z. list_any (int_eq z) (take place (map form.id all))) (sym id) ∙ first.again),
        ap (λ z. Repeated (place + 1) z) id ∙ ap (λ n. Repeated (n + 1) (form.id r)) (sym at),
      )

  -- the row is before the place, and none before it has its id
  new_here : (rows : List R) (r : R) (more all : List R) (place : ℕ) → all ≡ rows ++ r ∷ more → IsFirstRepeat (map form.id all) place → length rows < place
      → has_this_id form.id rows (form.id r) ≡ false
  new_here rows r more all place is first low =
      let ids = map form.id rows in
      let far : place ≡ length ids + suc (place - (length rows + 1)) = omega (arith, low, length-map rows form.id) in
      let front : take place (map form.id all) ≡ ids ++ (form.id r) ∷ take (place - (length rows + 1)) (map form.id more) =
      ap (take place) (ap (map form.id) is ∙ ids_around rows r more) ∙ (ap (λ n. take n (ids ++ (form.id r) ∷ map form.id more)) far ∙ take-append-add ids ((form.id r) ∷ map form.id more) (suc (place - (length rows + 1)))) in
      apart_before ids (form.id r) (take (place - (length rows + 1)) (map form.id more)) (subst (IsDistinct int_eq) front first.apart)

  repeat_step : (width count : ℕ) (rows all : List R) (fields : Fields) (rest : Records) (place : ℕ) (faults : List LoadFault) → faults_alone form width count fields ≡ faults
      → count ≡ length rows → all ≡ rows ++ if_right faults (form.row fields ∷ rows_alone form width (count + 1) rest) → IsFirstRepeat (map form.id all) place → length rows ≤ place
      → (count + 1 ≡ length (rows ++ form.row fields ∷ []) → all ≡ (rows ++ form.row fields ∷ []) ++ rows_alone form width (count + 1) rest → length (rows ++ form.row fields ∷ []) ≤ place
      → rows_behind form width (rows ++ form.row fields ∷ []) rest ≡ Err (repeat_at all place))
      → rows_behind form width rows (fields ∷ rest) ≡ Err (repeat_at all place)
  repeat_step width count rows all fields rest place (f ∷ later) e len is first low more = absurd (no_place rows all place is first low)
  repeat_step width count rows all fields rest place [] e len is first low more =
      let alone = ap (λ n. faults_alone form width n fields) (sym len) ∙ e in
      ⊎_elim
      (λ at.
      let again = here_again rows (form.row fields) (rows_alone form width (count + 1) rest) all place is first at in
      behind_fault width rows fields rest _ (row_again form width rows fields alone again.0) ∙ ap {B = Result (List R) LoadFault} (λ f. Err f) (sym again.1))
      (λ before.
      let none = row_none form width rows fields alone (new_here rows (form.row fields) (rows_alone form width (count + 1) rest) all place is first before) in
      behind_more width rows fields rest none
      ∙ more (one_longer rows (form.row fields) count len) (is ∙ sym (append_snoc rows (form.row fields) (rows_alone form width (count + 1) rest)))
      (omega (arith, before, length-append rows (form.row fields ∷ []))))
      (eq-or-lt_of_le low)

  -- the first repeated id among the rows is the first fault of the records
  pub repeat_all : (width count : ℕ) (rows all : List R) (rest : Records) (place : ℕ) → count ≡ length rows → all ≡ rows ++ rows_alone form width count rest
      → IsFirstRepeat (map form.id all) place → length rows ≤ place → rows_behind form width rows rest ≡ Err (repeat_at all place)
  unfolding rows_alone
  repeat_all width count rows all [] place len is first low = absurd (no_place rows all place is first low)
  repeat_all width count rows all (fields ∷ rest) place len is first low =
      repeat_step width count rows all fields rest place (faults_alone form width count fields) refl len is first low
      (λ longer moved later. repeat_all width (count + 1) (rows ++ form.row fields ∷ []) all rest place longer moved first later)

  -- all records: their rows, or the fault behind them, where no id repeats
  pub apart_whole : (width : ℕ) (rows : List R) (all : Records) → rows ≡ rows_alone form width 0 all → HaveDistinctIds form.id rows
      → rows_behind form width [] all ≡ ending (fault_alone form width 0 all) rows
  apart_whole width rows all is apart = apart_all width 0 [] rows all refl is apart

  -- and where one does
  pub repeat_whole : (width : ℕ) (rows : List R) (all : Records) (f : LoadFault) → rows ≡ rows_alone form width 0 all → IsRepeat (map form.id rows) f
      → rows_behind form width [] all ≡ Err f
  repeat_whole width rows all f is again =
      repeat_all width 0 [] rows all again.place refl is again.first (omega arith) ∙ ap {B = Result (List R) LoadFault} (λ f. Err f) (sym again.told)
