-- The rows of a form that have been read so far.
use Rattle.std.specs.Prelude.{◌≡◌, ℕ, ◌+◌, nat_lt, List, [], ◌∷◌, ◌++◌, length, Option, None, Some, Result, Ok, Err}
use Rattle.text_rules.specs.Readings.{judged}
use Rattle.table_rules.specs.Records.{faults_after, faults_by_itself, unless}
use Rattle.table_rules.specs.declared.fault.LoadFault.{LoadFault}
use Rattle.table_rules.specs.declared.fault.LoadFault.TheVariants.{TooManyRows}
use Rattle.table_rules.specs.declared.limits.TheConstants.{ROWS_MOST}
use Rattle.table_rules.specs.Forms.{Form}
use Rattle.record_text.specs.Standing.{StillGives}
use Rattle.record_text.specs.declared.reading.RecordReader.{RecordReader}

-- the result of the next step, if there is no fault
abbrev pub and_then : {A B : Type 0} → Result A LoadFault → (A → Result B LoadFault) → Result B LoadFault
and_then (Ok a) more = more a
and_then (Err f) more = Err f

-- the row of a record that follows these rows, or its first fault
abbrev pub row_behind : {R : Type 0} → Form R → ℕ → List R → List (List ℕ) → Result R LoadFault
row_behind form width rows fields = judged (faults_after form width rows fields) (form.row fields)

-- the rows so far and those of the records after them, or the first fault
unfoldable pub rows_behind : {R : Type 0} → Form R → ℕ → List R → List (List (List ℕ)) → Result (List R) LoadFault
rows_behind {R} form width rows [] = Ok rows
rows_behind {R} form width rows (fields ∷ rest) =
    and_then (row_behind form width rows fields) (λ r. rows_behind form width (rows ++ r ∷ []) rest)

-- the faults of a record other than a repeated id, if `count` rows precede it
abbrev pub faults_alone : {R : Type 0} → Form R → ℕ → ℕ → List (List ℕ) → List LoadFault
faults_alone form width count fields =
    unless (nat_lt count ROWS_MOST) TooManyRows ++ faults_by_itself form width (count + 1) fields

-- these rows, if there is no fault
abbrev pub if_right : {R : Type 0} → List LoadFault → List R → List R
if_right {R} [] rows = rows
if_right {R} (fault ∷ later) rows = []

-- the first of these faults, or else the later one
abbrev pub first_or : List LoadFault → Option LoadFault → Option LoadFault
first_or [] told = told
first_or (fault ∷ later) told = Some fault

-- the rows of the records before the first that has such a fault, if `count` rows precede them
unfoldable pub rows_alone : {R : Type 0} → Form R → ℕ → ℕ → List (List (List ℕ)) → List R
rows_alone {R} form width count [] = []
rows_alone {R} form width count (fields ∷ rest) =
    if_right (faults_alone form width count fields) (form.row fields ∷ rows_alone form width (count + 1) rest)

-- the first such fault of these records
unfoldable pub fault_alone : {R : Type 0} → Form R → ℕ → ℕ → List (List (List ℕ)) → Option LoadFault
fault_alone {R} form width count [] = None
fault_alone {R} form width count (fields ∷ rest) =
    first_or (faults_alone form width count fields) (fault_alone form width (count + 1) rest)

-- The rows so far and then the records that are left are those of all the records that the reader had at first.
pub record Left {R : Type 0} (form : Form R) (width : ℕ) (rows : List R) (rest all : List (List (List ℕ))) : Type 0 where
  pub all_rows : rows ++ rows_alone form width (length rows) rest ≡ rows_alone form width 0 all
  pub first_fault : fault_alone form width (length rows) rest ≡ fault_alone form width 0 all

-- the reader has left what follows these rows, of all that it had at first
abbrev pub Judged : {R : Type 0} → Form R → ℕ → RecordReader → RecordReader → List R → Type 0
Judged form width first reader rows =
    (all : List (List (List ℕ))) → StillGives first all
    → (rest : List (List (List ℕ))) × StillGives reader rest × Left form width rows rest all

-- From these records exactly these rows were read, up to the first such fault, or all of them if there is none.
pub record Read {R : Type 0} (form : Form R) (width : ℕ) (rows : List R) (told : Option LoadFault) (all : List (List (List ℕ))) : Type 0 where
  pub all_rows : rows ≡ rows_alone form width 0 all
  pub first_fault : told ≡ fault_alone form width 0 all

-- from the records that a reader has left, these rows were read, up to this fault
abbrev pub HasRead : {R : Type 0} → Form R → ℕ → RecordReader → List R → Option LoadFault → Type 0
HasRead form width reader rows told =
    (all : List (List (List ℕ))) → StillGives reader all → Read form width rows told all
