-- One turn of the reading of rows, and its ends.
use Rattle.std.proofs.Common.{◌≡◌, ◌∙◌, inl, inr, sym, refl, ap, subst, ℕ, ◌+◌, ◌≤◌, Bool, true, false, List, [], ◌∷◌, ◌++◌, length, map, take, drop, get_or, Option, None, Some, Result, Ok, Err, arith}
use Rattle.std.specs.Prelude.{IfOk}
use Rattle.std.specs.List.{flat_map, range_with_len}
use Rattle.std.proofs.lemmas.Option.{none-some}
use Rattle.std.proofs.lemmas.List.{length-append, length-drop, append-nil, map-append}
use Rattle.std.proofs.Math.Seq.{append_snoc, take-append_seam, get_or-append_seam}
use Rattle.sky_io.specs.Stops.{IfBad}
use Rattle.sky_io.specs.declared.Stop.{Stop}
use Rattle.sky_io.specs.declared.Stop.TheVariants as stop
use Rattle.record_text.specs.declared.reading.RecordReader.{RecordReader}
use Rattle.text_rules.specs.Readings.{judged}
use Rattle.text_rules.specs.declared.limits.TheConstants.{TEXT_MOST}
use Rattle.table_rules.specs.declared.fault.LoadFault.{LoadFault}
use Rattle.table_rules.specs.declared.fault.LoadFault.TheVariants as fault
use Rattle.table_rules.proofs.Faults.{judged_ok}
use Rattle.table_rules.specs.Forms.{Form}
use Rattle.table_rules.specs.IdOrder.{IsInOrder, in_id_order}
use Rattle.table_rules.specs.Records.{faults_after, faults_of_header, faults_of_rows, table_of, table_under}
use Rattle.table_rules.specs.Repeats.{IsFirstFault, IsRepeat}
use Rattle.table_rules.proofs.Order.{distinct_by_table, one_order}
use Rattle.record_text.specs.Faults.{first_of}
use Rattle.record_text.specs.Judged.{HasRead, Judged, Left, Read, and_then, fault_alone, faults_alone, rows_alone, rows_behind}
use Rattle.record_text.specs.Standing.{HasLeft, StillGives, TookFirst}
use Rattle.record_text.proofs.Alone.{apart_whole, ending, repeat_whole}
use Rattle.record_text.proofs.Firsts.{first_front}
use Rattle.record_text.proofs.Judgements.{judged_first, judged_none}

abbrev Records : Type 0
Records = List (List (List ℕ))

same_fault : {A : Type 0} (g f : LoadFault) → ◌≡◌ {A = Result A LoadFault} (Err g) (Err f) → g ≡ f
same_fault {A} g f h = cc h

-- each read takes the first of the records that are left
abbrev Takes : Bool → List (List ℕ) → RecordReader → RecordReader → Type 0
Takes found fields a b = (rest : Records) → StillGives a rest → TookFirst found fields b rest

-- a record that was read has few fields
pub small_fields : (found : Bool) (fields : List (List ℕ)) (b : RecordReader) (rest : Records) → found ≡ true → TookFirst found fields b rest → length fields ≤ TEXT_MOST + 1
small_fields true fields b rest e took = took.small
small_fields false fields b rest e took = absurd (cc e)

pub stop_by : (s : Stop LoadFault) (P Q : LoadFault → Type 0) → ((f : LoadFault) → P f → Q f) → IfBad s P → IfBad s Q
stop_by stop.Memory P Q more h = tt
stop_by (stop.Bad f) P Q more h = more f h

other_found : {A B : Type 0} (faults : List LoadFault) (a : A) (b : B) (f : LoadFault) → judged faults a ≡ Err f → judged faults b ≡ Err f
other_found {A} {B} [] a b f h = absurd (cc h)
other_found {A} {B} (g ∷ later) a b f h = ap {B = Result B LoadFault} (λ x. Err x) (same_fault g f h)

-- two facts about a call that stopped
pub both_of : (s : Stop LoadFault) (P Q : LoadFault → Type 0) → IfBad s P → IfBad s Q → IfBad s (λ f. P f × Q f)
both_of stop.Memory P Q a b = tt
both_of (stop.Bad f) P Q a b = (a, b)

-- what holds of an answer
pub ok_by : {A E : Type 0} (result : Result A E) (P Q : A → Type 0) → ((a : A) → P a → Q a) → IfOk result P → IfOk result Q
ok_by {A} {E} (Ok a) P Q more h = more a h
ok_by {A} {E} (Err e) P Q more h = tt

-- behind a record that was read the reader reads on
pub reads_on : (b : RecordReader) (fields : List (List ℕ)) (all : Records) (found : Bool) → found ≡ true → TookFirst found fields b all → HasLeft b
reads_on b fields all true e took = (took.more, took.gives)
reads_on b fields all false e took = absurd (cc e)

judged_both : {A : Type 0} (xs ys : List LoadFault) (found : A) → judged (xs ++ ys) found ≡ and_then (judged xs found) (λ a. judged ys a)
judged_both {A} [] ys found = refl
judged_both {A} (x ∷ xs) ys found = refl

and_then_by : {A B C : Type 0} (xs : List LoadFault) (a : A) (b : B) (more : A → Result C LoadFault) (other : B → Result C LoadFault) → more a ≡ other b
    → and_then (judged xs a) more ≡ and_then (judged xs b) other
and_then_by {A} {B} {C} [] a b more other h = h
and_then_by {A} {B} {C} (x ∷ xs) a b more other h = refl

module _ {R : Type 0} (form : Form R) where
  -- a record with no fault but, maybe, a repeated id: its row goes behind the others
  left_more : (width : ℕ) (rows : List R) (fields : List (List ℕ)) (more all : Records) → faults_alone form width (length rows) fields ≡ []
      → Left form width rows (fields ∷ more) all → Left form width (rows ++ form.row fields ∷ []) more all
  unfolding rows_alone fault_alone
  left_more width rows fields more all none left =
      let longer : length (rows ++ form.row fields ∷ []) ≡ length rows + 1 = length-append rows (form.row fields ∷ []) in
      let front : rows ++ form.row fields ∷ rows_alone form width (length rows + 1) more ≡ rows_alone form width 0 all = rw none at left.all_rows in
      let told : fault_alone form width (length rows + 1) more ≡ fault_alone form width 0 all = rw none at left.first_fault in
      record {
        all_rows = ap (λ n. (rows ++ form.row fields ∷ []) ++ rows_alone form width n more) longer ∙ (append_snoc rows (form.row fields) (rows_alone form width (length rows + 1) more) ∙ front);
        first_fault = ap (λ n. fault_alone form width n more) longer ∙ told;
      }

  -- no record is left
  left_none : (width : ℕ) (rows : List R) (all : Records) → Left form width rows [] all → Read form width rows None all
  unfolding rows_alone fault_alone
  left_none width rows all left = record { all_rows = sym (append-nil rows) ∙ left.all_rows; first_fault = left.first_fault }

  -- a record with a fault of its own: none behind it is read
  left_fault : (width : ℕ) (rows : List R) (fields : List (List ℕ)) (more all : Records) (f : LoadFault) (faults : List LoadFault) → faults_alone form width (length rows) fields ≡ faults
      → first_of faults ≡ Some f → Left form width rows (fields ∷ more) all → Read form width rows (Some f) all
  unfolding rows_alone fault_alone
  left_fault width rows fields more all f [] e first left = absurd (none-some f first)
  left_fault width rows fields more all f (g ∷ later) e first left =
      let front : rows ++ [] ≡ rows_alone form width 0 all = rw e at left.all_rows in
      let told : Some g ≡ fault_alone form width 0 all = rw e at left.first_fault in
      record { all_rows = sym (append-nil rows) ∙ front; first_fault = sym first ∙ told }

  -- a record was read and its row put behind the others
  pub kept : (width : ℕ) (first a b : RecordReader) (rows new : List R) (fields : List (List ℕ)) (found : Bool) → found ≡ true
      → Takes found fields a b → faults_alone form width (length rows) fields ≡ [] → new ≡ rows ++ form.row fields ∷ [] → Judged form width first a rows → Judged form width first b new
  kept width first a b rows new fields false e takes none is judged all still = absurd (cc e)
  kept width first a b rows new fields true e takes none is judged all still =
      let (rest, gives, left) = judged all still in
      let took = takes rest gives in
      (took.more, took.gives, subst (λ l. Left form width l took.more all) (sym is) (left_more width rows fields took.more all none (subst (λ l. Left form width rows l all) took.split left)))

  -- no record is left
  pub ended : (width : ℕ) (first a b : RecordReader) (rows : List R) (fields : List (List ℕ)) (found : Bool) → found ≡ false
      → Takes found fields a b → Judged form width first a rows → HasRead form width first rows None
  ended width first a b rows fields true e takes judged all still = absurd (cc e)
  ended width first a b rows fields false e takes judged all still =
      let (rest, gives, left) = judged all still in
      left_none width rows all (subst (λ l. Left form width rows l all) (takes rest gives) left)

  -- a record was read that has a fault of its own, and the rows stay
  pub refused : (width : ℕ) (first a b : RecordReader) (rows new : List R) (fields : List (List ℕ)) (found : Bool) (f : LoadFault) → found ≡ true
      → Takes found fields a b → first_of (faults_alone form width (length rows) fields) ≡ Some f → new ≡ rows → Judged form width first a rows
      → HasRead form width first new (Some f)
  refused width first a b rows new fields false f e takes wrong same judged all still = absurd (cc e)
  refused width first a b rows new fields true f e takes wrong same judged all still =
      let (rest, gives, left) = judged all still in
      let took = takes rest gives in
      subst (λ l. Read form width l (Some f) all) (sym same)
      (left_fault width rows fields took.more all f (faults_alone form width (length rows) fields) refl wrong (subst (λ l. Left form width rows l all) took.split left))

  -- the faults of the records from i on, each checked after those before it
  abbrev from : ℕ → Records → ℕ → ℕ → List LoadFault
  from width all i n = flat_map (λ i. faults_after form width (map form.row (take i all)) (get_or all i [])) (range_with_len i n)

  seam : (width : ℕ) (seen : Records) (fields : List (List ℕ)) (rest : Records)
      → faults_after form width (map form.row (take (length seen) (seen ++ fields ∷ rest))) (get_or (seen ++ fields ∷ rest) (length seen) []) ≡ faults_after form width (map form.row seen) fields
  seam width seen fields rest =
      ap (λ l. faults_after form width (map form.row l) (get_or (seen ++ fields ∷ rest) (length seen) [])) (take-append_seam seen (fields ∷ rest))
      ∙ ap (faults_after form width (map form.row seen)) (get_or-append_seam seen fields rest [])

  -- judging record by record is judging the list of all records
  behind_is : (width : ℕ) (seen rest : Records) → rows_behind form width (map form.row seen) rest ≡ judged (from width (seen ++ rest) (length seen) (length rest)) (map form.row (seen ++ rest))
  unfolding rows_behind
  behind_is width seen [] = ap (λ l. Ok (map form.row l)) (sym (append-nil seen))
  behind_is width seen (fields ∷ rest) =
      let whole = seen ++ fields ∷ rest in
      let next = seen ++ fields ∷ [] in
      let here = faults_after form width (map form.row seen) fields in
      let later = behind_is width next rest in
      let grouped : next ++ rest ≡ whole = append_snoc seen fields rest in
      let count : length next ≡ length seen + 1 = length-append seen (fields ∷ []) in
      let moved : judged (from width (next ++ rest) (length next) (length rest)) (map form.row (next ++ rest)) ≡ judged (from width whole (length seen + 1) (length rest)) (map form.row whole) =
      rw (grouped, count) refl in
      let step : rows_behind form width (map form.row seen ++ form.row fields ∷ []) rest ≡ judged (from width whole (length seen + 1) (length rest)) (map form.row whole) =
      ap (λ l. rows_behind form width l rest) (sym (map-append form.row seen (fields ∷ []))) ∙ (later ∙ moved) in
      and_then_by here (form.row fields) (map form.row whole) (λ r. rows_behind form width (map form.row seen ++ r ∷ []) rest) (λ a. judged (from width whole (length seen + 1) (length rest)) a) step
      ∙ (sym (judged_both here (from width whole (length seen + 1) (length rest)) (map form.row whole))
      ∙ ap (λ l. judged (l ++ from width whole (length seen + 1) (length rest)) (map form.row whole)) (sym (seam width seen fields rest)))

  pub all_behind : (width : ℕ) (rest : Records) → rows_behind form width [] rest ≡ judged (faults_of_rows form width rest) (map form.row rest)
  all_behind width rest = behind_is width [] rest

module _ {R T : Type 0} (form : Form R) (made : List (List ℕ) → List R → T) where
  -- some record has a fault
  whole_bad : (width : ℕ) (names : List (List ℕ)) (rest : Records) (f : LoadFault) → rows_behind form width [] rest ≡ Err f
      → judged (faults_of_rows form width rest) (table_under form made names rest) ≡ Err f
  whole_bad width names rest f read = other_found (faults_of_rows form width rest) (map form.row rest) (table_under form made names rest) f (sym (all_behind form width rest) ∙ read)

  -- an id repeats among the rows that were read
  pub read_again : (width : ℕ) (names : List (List ℕ)) (all : Records) (rows : List R) (told : Option LoadFault) (f : LoadFault) → Read form width rows told all → IsRepeat (map form.id rows) f
      → judged (faults_of_rows form width all) (table_under form made names all) ≡ Err f
  read_again width names all rows told f read again = whole_bad width names all f (repeat_whole form width rows all f read.all_rows again)

  -- a record after the rows that were read has a fault
  pub read_fault : (width : ℕ) (names : List (List ℕ)) (all : Records) (rows : List R) (behind f : LoadFault) → Read form width rows (Some behind) all → IsFirstFault (map form.id rows) behind f
      → judged (faults_of_rows form width all) (table_under form made names all) ≡ Err f
  read_fault width names all rows behind f read (inr again) = read_again width names all rows (Some behind) f read again
  read_fault width names all rows behind f read (inl alone) =
      whole_bad width names all f (apart_whole form width rows all read.all_rows alone.0 ∙ (ap (λ o. ending o rows) (sym read.first_fault) ∙ ap {B = Result (List R) LoadFault} (λ x. Err x) (sym alone.1)))

  -- the text has no record
  pub no_record : (b : RecordReader) (fields : List (List ℕ)) (all : Records) (found : Bool) → found ≡ false → TookFirst found fields b all
      → table_of form made all ≡ Err (fault.Header 1)
  no_record b fields all true e took = absurd (cc e)
  no_record b fields all false e took = ap (table_of form made) took

  -- the header has a fault
  pub wrong_header : (b : RecordReader) (header : List (List ℕ)) (all : Records) (found : Bool) (f : LoadFault) → found ≡ true → TookFirst found header b all
      → first_of (faults_of_header form header) ≡ Some f → table_of form made all ≡ Err f
  wrong_header b header all false f e took wrong = absurd (cc e)
  wrong_header b header all true f e took wrong =
      ap (table_of form made) took.split
      ∙ judged_first (faults_of_header form header ++ faults_of_rows form (length header) took.more) (table_under form made (drop (length form.first) header) took.more) f
      (first_front (faults_of_header form header) (faults_of_rows form (length header) took.more) f wrong)

  -- under a right header the records are what their rows are
  pub under_header : (header names : List (List ℕ)) (rest : Records) (what : Result T LoadFault) → faults_of_header form header ≡ [] → length form.first ≤ length header
      → names ≡ drop (length form.first) header
      → judged (faults_of_rows form (length form.first + length names) rest) (table_under form made names rest) ≡ what → table_of form made (header ∷ rest) ≡ what
  under_header header names rest what none long is rows =
      let n = length form.first in
      let width : n + length names ≡ length header = omega (arith, long, ap length is, length-drop n header) in
      let same : judged (faults_of_rows form (length header) rest) (table_under form made (drop n header) rest) ≡ judged (faults_of_rows form (n + length names) rest) (table_under form made names rest) =
      ap (λ w. judged (faults_of_rows form w rest) (table_under form made (drop n header) rest)) (sym width)
      ∙ ap (λ l. judged (faults_of_rows form (n + length names) rest) (table_under form made l rest)) (sym is) in
      ap (λ l. judged (l ++ faults_of_rows form (length header) rest) (table_under form made (drop n header) rest)) none ∙ (same ∙ rows)

  -- the same of the records that a reader has left after the header
  pub right_header : (b : RecordReader) (header names : List (List ℕ)) (all : Records) (found : Bool) (what : Result T LoadFault) → found ≡ true → TookFirst found header b all
      → faults_of_header form header ≡ [] → length form.first ≤ length header → names ≡ drop (length form.first) header
      → ((rest : Records) → StillGives b rest → judged (faults_of_rows form (length form.first + length names) rest) (table_under form made names rest) ≡ what) → table_of form made all ≡ what
  right_header b header names all false what e took none long is rows = absurd (cc e)
  right_header b header names all true what e took none long is rows =
      ap (table_of form made) took.split ∙ under_header header names took.more what none long is (rows took.more took.gives)

module _ {R T : Type 0} (form : Form R) (made : List (List ℕ) → List R → T) (names_of : T → List (List ℕ)) (rows_of : T → List R)
    (whole : (t : T) → made (names_of t) (rows_of t) ≡ t) where
  -- the rows of all records are there, and the table of them is this one
  whole_ok : (width : ℕ) (names : List (List ℕ)) (rest : Records) (rows : List R) (t : T) → rows_behind form width [] rest ≡ Ok rows → names_of t ≡ names → IsInOrder form.id rows (rows_of t)
      → judged (faults_of_rows form width rest) (table_under form made names rest) ≡ Ok t
  whole_ok width names rest rows t read named table =
      let (none, same) = judged_ok (faults_of_rows form width rest) (map form.row rest) rows (sym (all_behind form width rest) ∙ read) in
      let order : rows_of t ≡ in_id_order form.id (map form.row rest) = one_order form.id rows (rows_of t) table ∙ ap (in_id_order form.id) (sym same) in
      let is : made names (in_id_order form.id (map form.row rest)) ≡ t = ap (made names) (sym order) ∙ (ap (λ n. made n (rows_of t)) (sym named) ∙ whole t) in
      judged_none (faults_of_rows form width rest) (table_under form made names rest) none ∙ ap {B = Result T LoadFault} (λ x. Ok x) is

  -- all records were read, and no id repeats
  pub read_ok : (width : ℕ) (names : List (List ℕ)) (all : Records) (rows : List R) (t : T) → Read form width rows None all → names_of t ≡ names → IsInOrder form.id rows (rows_of t)
      → judged (faults_of_rows form width all) (table_under form made names all) ≡ Ok t
  read_ok width names all rows t read named table =
      whole_ok width names all rows t (apart_whole form width rows all read.all_rows (distinct_by_table form.id rows (rows_of t) table) ∙ ap (λ o. ending o rows) (sym read.first_fault)) named table

  -- the same of what a reader has left: the rows in order
  pub under_ok : (r : Result T (Stop LoadFault)) (width : ℕ) (names gathered : List (List ℕ)) (reader : RecordReader) (rows : List R) → HasRead form width reader rows None
      → gathered ≡ names → IfOk r (λ t. names_of t ≡ gathered) → IfOk r (λ t. IsInOrder form.id rows (rows_of t))
      → IfOk r (λ t. (all : Records) → StillGives reader all → judged (faults_of_rows form width all) (table_under form made names all) ≡ Ok t)
  under_ok (Ok t) width names gathered reader rows read same named table = λ all still. read_ok width names all rows t (read all still) (named ∙ same) table
  under_ok (Err stop) width names gathered reader rows read same named table = tt
