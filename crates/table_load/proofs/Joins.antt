-- What was read of two parts, joined.
use Rattle.std.proofs.Common.{◌≡◌, ◌≢◌, ◌∙◌, sym, refl, ap, subst, ℕ, ◌+◌, ◌≤◌, arith, Bool, true, false, if◌then◌else◌, List, [], ◌∷◌, ◌++◌, length, map, Option, None, Some, ℤ, Result, Ok, Err}
use Rattle.std.specs.Prelude.{All, IfErr, IfOk, IfSome}
use Rattle.std.specs.List.{AllByRecursion, flat_map, range_with_len}
use Rattle.std.proofs.lemmas.Option.{none-some}
use Rattle.std.proofs.lemmas.List.Elements.{All-append}
use Rattle.std.proofs.lemmas.List.{length-append, length-map, map-append}
use Rattle.csv.specs.Reading.{default_config, records, strip_bom}
use Rattle.sky_io.specs.Stops.{IfBad}
use Rattle.sky_io.specs.declared.Stop.{Stop}
use Rattle.text_rules.specs.Numbers.{int_of}
use Rattle.table_rules.specs.Forms.{Form}
use Rattle.table_rules.specs.IdOrder.{IsInOrder}
use Rattle.table_rules.specs.Records.{faults_by_itself, faults_of_field, faults_of_number, field_in, in_range, null_in, table_of, unless}
use Rattle.table_rules.specs.Repeats.{IsRepeat}
use Rattle.table_rules.specs.declared.fault.LoadFault.{LoadFault}
use Rattle.table_rules.specs.declared.limits.TheConstants.{ROWS_MOST}
use Rattle.table_rules.proofs.Faults.{none_of_both}
use Rattle.record_parts.proofs.Apart.{first_lines_stand_apart, lines_stand_apart}
use Rattle.record_text.specs.Judged.{Read, fault_alone, faults_alone, first_or, if_right, rows_alone}
use Rattle.record_text.specs.Standing.{StillGives, TookFirst}
use Rattle.record_text.specs.declared.reading.RecordReader.{RecordReader}
use Rattle.record_text.proofs.Firsts.{bad_by}
use Rattle.record_text.proofs.RowFaults.{row_right}
use Rattle.record_text.proofs.Steps.{read_again, read_ok, under_header}
use Rattle.table_load.specs.InParts.{AreFaultsWithoutNumber, AreParts, IsReadUnder, IsReadWhole}

abbrev Fields : Type 0
Fields = List (List ℕ)

abbrev Records : Type 0
Records = List Fields

-- ---- parts of a text

pub small_front : (text front behind : List ℕ) (most : ℕ) → AreParts text front behind → length text ≤ most → length front ≤ most
small_front text front behind most parts few = omega (arith, few, ap length parts.whole, length-append front behind)

pub small_behind : (text front behind : List ℕ) (most : ℕ) → AreParts text front behind → length text ≤ most → length behind ≤ most
small_behind text front behind most parts few = omega (arith, few, ap length parts.whole, length-append front behind)

-- a reader gave one record and no second
pub one_record : (a b : RecordReader) (first second : Fields) (all : Records) (x y : Bool) → x ≡ true → y ≡ false → TookFirst x first a all
    → ((rest : Records) → StillGives a rest → TookFirst y second b rest) → all ≡ first ∷ []
one_record a b first second all false y e1 e2 took next = absurd (cc e1)
one_record a b first second all true true e1 e2 took next = absurd (cc e2)
one_record a b first second all true false e1 e2 took next = took.split ∙ ap (λ l. first ∷ l) (next took.more took.gives)

-- ---- whether a record has a fault by itself does not depend on its number

unless_other : (right : Bool) (f g : LoadFault) → unless right f ≡ [] → unless right g ≡ []
unless_other true f g none = refl
unless_other false f g none = absurd (cc none)

none_three : (a b c : List LoadFault) → a ≡ [] → b ≡ [] → c ≡ [] → a ++ b ++ c ≡ []
none_three a b c e1 e2 e3 = rw (e1, e2, e3) refl

module _ {R : Type 0} (form : Form R) where
  number_other : (row other col : ℕ) (z : Option ℤ) → faults_of_number form row col z ≡ [] → faults_of_number form other col z ≡ []
  number_other row other col None none = absurd (cc none)
  number_other row other col (Some z) none = unless_other (in_range form col z) _ _ none

  field_by : (row other col : ℕ) (field : List ℕ) (null : Bool) → (if null then [] else faults_of_number form row col (int_of field)) ≡ [] → (if null then [] else faults_of_number form other col (int_of field)) ≡ []
  field_by row other col field true none = refl
  field_by row other col field false none = number_other row other col (int_of field) none

  field_other : (row other col : ℕ) (field : List ℕ) → faults_of_field form row col field ≡ [] → faults_of_field form other col field ≡ []
  field_other row other col field none = field_by row other col field (null_in form col field) none

  fields_other : (row other : ℕ) (fields : Fields) (cols : List ℕ) → flat_map (λ col. faults_of_field form row col (field_in fields col)) cols ≡ [] → flat_map (λ col. faults_of_field form other col (field_in fields col)) cols ≡ []
  fields_other row other fields [] none = refl
  fields_other row other fields (col ∷ cols) none =
      let both = none_of_both (faults_of_field form row col (field_in fields col)) (flat_map (λ col. faults_of_field form row col (field_in fields col)) cols) none in
      rw (field_other row other col (field_in fields col) both.0) (fields_other row other fields cols both.1)

module _ {R : Type 0} (form : Form R) (numberless : AreFaultsWithoutNumber form) where
  own_other : (width row other : ℕ) (fields : Fields) → faults_by_itself form width row fields ≡ [] → faults_by_itself form width other fields ≡ []
  own_other width row other fields none =
      let two = none_of_both _ _ none in
      let one = none_of_both _ _ two.0 in
      none_three _ _ _ (unless_other _ _ _ one.0) (fields_other form row other fields (range_with_len 0 (length fields)) one.1) (numberless row other fields two.1)

  -- ---- records none of which has a fault by itself

  abbrev Right : ℕ → Records → Type 0
  Right width all = AllByRecursion (λ (fields : Fields). faults_by_itself form width 1 fields ≡ []) all

  right_by : (width count : ℕ) (fields : Fields) (rest : Records) (faults : List LoadFault) → faults_alone form width count fields ≡ faults
      → None ≡ first_or faults (fault_alone form width (count + 1) rest) → (None ≡ fault_alone form width (count + 1) rest → Right width rest) → Right width (fields ∷ rest)
  right_by width count fields rest [] e none more = (own_other width (count + 1) 1 fields (none_of_both _ _ e).1, more none)
  right_by width count fields rest (f ∷ later) e none more = absurd (none-some f none)

  -- if no fault was found there is none
  right_all : (width count : ℕ) (all : Records) → None ≡ fault_alone form width count all → Right width all
  unfolding fault_alone
  right_all width count [] none = tt
  right_all width count (fields ∷ rest) none = right_by width count fields rest (faults_alone form width count fields) refl none (λ k. right_all width (count + 1) rest k)

  rows_by : (width count : ℕ) (fields : Fields) (rest : Records) (faults : List LoadFault) → None ≡ first_or faults (fault_alone form width (count + 1) rest)
      → (None ≡ fault_alone form width (count + 1) rest → rows_alone form width (count + 1) rest ≡ map form.row rest)
      → if_right faults (form.row fields ∷ rows_alone form width (count + 1) rest) ≡ form.row fields ∷ map form.row rest
  rows_by width count fields rest [] none more = ap (λ l. form.row fields ∷ l) (more none)
  rows_by width count fields rest (f ∷ later) none more = absurd (none-some f none)

  -- and the rows are those of all records
  rows_all : (width count : ℕ) (all : Records) → None ≡ fault_alone form width count all → rows_alone form width count all ≡ map form.row all
  unfolding rows_alone fault_alone
  rows_all width count [] none = refl
  rows_all width count (fields ∷ rest) none = rows_by width count fields rest (faults_alone form width count fields) none (λ k. rows_all width (count + 1) rest k)

  -- the other way about, where there are not too many
  all_right : (width count : ℕ) (all : Records) → Right width all → count + length all ≤ ROWS_MOST → (rows_alone form width count all ≡ map form.row all) × (None ≡ fault_alone form width count all)
  unfolding rows_alone fault_alone
  all_right width count [] right few = (refl, refl)
  all_right width count (fields ∷ rest) right few =
      let none : faults_alone form width count fields ≡ [] = row_right form width count fields (omega (arith, few)) (own_other width 1 (count + 1) fields right.0) in
      let more = all_right width (count + 1) rest right.1 (omega (arith, few)) in
      (rw none (ap (λ l. form.row fields ∷ l) more.0), rw none more.1)

  right_both : (width : ℕ) (xs ys : Records) → Right width xs → Right width ys → Right width (xs ++ ys)
  right_both width [] ys a b = b
  right_both width (x ∷ xs) ys a b = (a.0, right_both width xs ys a.1 b)

  -- what was read of some records and of others is what is read of both
  read_both : (width : ℕ) (a b : List R) (xs ys : Records) → Read form width a None xs → Read form width b None ys → length a + length b ≤ ROWS_MOST → Read form width (a ++ b) None (xs ++ ys)
  read_both width a b xs ys front behind few =
      let one : a ≡ map form.row xs = front.all_rows ∙ rows_all width 0 xs front.first_fault in
      let two : b ≡ map form.row ys = behind.all_rows ∙ rows_all width 0 ys behind.first_fault in
      let counts : length xs + length ys ≡ length a + length b = omega (arith, ap length one, ap length two, length-map xs form.row, length-map ys form.row) in
      let whole = all_right width 0 (xs ++ ys) (right_both width xs ys (right_all width 0 xs front.first_fault) (right_all width 0 ys behind.first_fault)) (omega (arith, few, counts, length-append xs ys)) in
      record {
        all_rows = rw (one, two) (sym (map-append form.row xs ys) ∙ sym whole.0);
        first_fault = whole.1;
      }

  -- ---- the rows of two parts

  -- the rows of two parts, joined, are those of the text
  pub under_both : (header : Fields) (text front behind : List ℕ) (first second names : Fields) (a b c : List R) → AreParts text front behind → IsReadUnder form header first a front
      → IsReadUnder form header second b behind → names ≡ first → length c ≤ ROWS_MOST → c ≡ a ++ b → IsReadUnder form header names c text
  under_both header text front behind first second names a b c parts one two named few joined =
      let width = length form.first + length names in
      let other : second ≡ names = two.extra ∙ (sym one.extra ∙ sym named) in
      let left : Read form width a None (records default_config front) = subst (λ n. Read form (length form.first + length n) a None (records default_config front)) (sym named) one.read in
      let right : Read form width b None (records default_config behind) = subst (λ n. Read form (length form.first + length n) b None (records default_config behind)) other two.read in
      let apart : records default_config text ≡ records default_config front ++ records default_config behind =
      ap (records default_config) (sym parts.whole) ∙ lines_stand_apart front behind (record { unquoted = one.unquoted; ended = parts.ended }) in
      let both = read_both width a b _ _ left right (omega (arith, few, ap length joined, length-append a b)) in
      record {
        right = one.right;
        long = one.long;
        extra = named ∙ one.extra;
        unquoted = subst (λ t. All (λ k. k ≢ 34) t) parts.whole (All-append (λ k. k ≢ 34) front behind one.unquoted two.unquoted);
        read = subst (λ l. Read form width l None (records default_config text)) (sym joined) (subst (λ l. Read form width (a ++ b) None l) (sym apart) both);
      }

  -- and so are the rows that were read, if any were
  pub some_both : {G : Type 0} (names : G → Fields) (rows : G → List R) (r : Option G) (header : Fields) (text front behind : List ℕ) (a b : G) → AreParts text front behind
      → IsReadUnder form header (names a) (rows a) front → IsReadUnder form header (names b) (rows b) behind → IfSome r (λ c. names c ≡ names a)
      → IfSome r (λ c. length (rows c) ≤ ROWS_MOST) → IfSome r (λ c. rows c ≡ rows a ++ rows b) → IfSome r (λ c. IsReadUnder form header (names c) (rows c) text)
  some_both {G} names rows None header text front behind a b parts first second named few joined = tt
  some_both {G} names rows (Some c) header text front behind a b parts first second named few joined =
      under_both header text front behind (names a) (names b) (names c) (rows a) (rows b) (rows c) parts first second named few joined

module _ {R : Type 0} (form : Form R) where
  -- the rows after the line of a header are those of the text
  under_line : (header : Fields) (text line rest : List ℕ) (names : Fields) (rows : List R) → AreParts text line rest → All (λ b. b ≢ 34) line
      → records default_config (strip_bom line) ≡ header ∷ [] → IsReadUnder form header names rows rest → IsReadWhole form names rows text
  under_line header text line rest names rows parts unquoted single read = record {
    header = header;
    rest = records default_config rest;
    split =
        ap (λ t. records default_config (strip_bom t)) (sym parts.whole)
        ∙ (first_lines_stand_apart line rest (record { unquoted = unquoted; ended = parts.ended })
        ∙ ap (λ l. l ++ records default_config rest) single);
    right = read.right;
    long = read.long;
    extra = read.extra;
    read = read.read;
  }

  -- and so are those that were read, if any were
  pub some_line : {G : Type 0} (names : G → Fields) (rows : G → List R) (r : Option G) (header : Fields) (text line rest : List ℕ) → AreParts text line rest
      → All (λ b. b ≢ 34) line → records default_config (strip_bom line) ≡ header ∷ [] → IfSome r (λ c. IsReadUnder form header (names c) (rows c) rest)
      → IfSome r (λ c. IsReadWhole form (names c) (rows c) text)
  some_line {G} names rows None header text line rest parts unquoted single read = tt
  some_line {G} names rows (Some c) header text line rest parts unquoted single read = under_line header text line rest (names c) (rows c) parts unquoted single read

-- ---- the table of the text

module _ {R T : Type 0} (form : Form R) (made : List (List ℕ) → List R → T) where
  -- the answer is the table, if no id repeats
  pub whole_ok : (names_of : T → Fields) (rows_of : T → List R) → ((t : T) → made (names_of t) (rows_of t) ≡ t) → (r : Result T (Stop LoadFault)) (text : List ℕ) (names : Fields)
      (rows : List R) → IsReadWhole form names rows text → IfOk r (λ t. names_of t ≡ names) → IfOk r (λ t. IsInOrder form.id rows (rows_of t))
      → IfOk r (λ t. table_of form made (records default_config (strip_bom text)) ≡ Ok t)
  whole_ok names_of rows_of both (Err s) text names rows is named table = tt
  whole_ok names_of rows_of both (Ok t) text names rows is named table =
      ap (table_of form made) is.split
      ∙ under_header form made is.header names is.rest (Ok t) is.right is.long is.extra (read_ok form made names_of rows_of both _ names is.rest rows t is.read named table)

  -- or its first fault, if one does
  pub whole_bad : (r : Result T (Stop LoadFault)) (text : List ℕ) (names : Fields) (rows : List R) → IsReadWhole form names rows text
      → IfErr r (λ s. IfBad s (λ f. IsRepeat (map form.id rows) f)) → IfErr r (λ s. IfBad s (λ f. table_of form made (records default_config (strip_bom text)) ≡ Err f))
  whole_bad r text names rows is again =
      bad_by r _ _ (λ f h. ap (table_of form made) is.split
      ∙ under_header form made is.header names is.rest (Err f) is.right is.long is.extra (read_again form made _ names is.rest rows None f is.read h)) again
