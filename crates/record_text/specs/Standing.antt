-- What a reader over a text has still to give.
use Rattle.std.specs.Prelude.{◌≡◌, ◌⊎◌, ℕ, ◌+◌, ◌<◌, ◌≤◌, Bool, true, false, List, [], ◌∷◌, length, None, Some}
use Rattle.std.specs.Borrow.{Bor}
use Rattle.csv.specs.Machine.{next_record}
use Rattle.csv.specs.Reading.{Ready, default_config, records_from, source_of}
use Rattle.csv.specs.declared.parser.State.{State}
use Rattle.csv.specs.declared.reader.Reader.{Reader}
use Rattle.csv.specs.declared.reader.Trim.TheVariants as trim
use Rattle.csv.specs.declared.parser.State.TheVariants as st
use Rattle.record_text.specs.PlainText.{IsPlain}
use Rattle.record_text.specs.declared.reading.RecordReader.{RecordReader}
use Rattle.record_text.specs.declared.reading.RecordReader.TheVariants.{Lines, Copies}
use Rattle.text_rules.specs.declared.limits.TheConstants.{TEXT_MOST}

-- n iterations are enough for all the records that these bytes hold
abbrev pub IsEnough : ℕ → State → List ℕ → Type 0
IsEnough n s bytes = (length bytes < n) ⊎ (next_record default_config s [] [] bytes ≡ None)

-- A reader of `csv` continues its text, and these are the records that are left.
pub record CopiesGive (reader : Reader (Bor (List ℕ))) (rest : List (List (List ℕ))) : Type 0 where
  pub plain : reader.trim ≡ trim.None
  pub ready : Ready reader
  pub wide : reader.flexible ≡ true
  pub config : reader.config ≡ default_config
  pub turns : ℕ
  pub bytes : List ℕ
  pub small : length bytes ≤ TEXT_MOST
  pub source : source_of (λ (s : Bor (List ℕ)). Some s.now) reader ≡ Some bytes
  pub enough : IsEnough turns reader.state bytes
  pub left : rest ≡ records_from default_config turns reader.state bytes

-- These are the records that are left of a text without double quotes and carriage returns.
pub record LinesGive (text : List ℕ) (rest : List (List (List ℕ))) : Type 0 where
  pub plain : IsPlain text
  pub turns : ℕ
  pub small : length text ≤ TEXT_MOST
  pub enough : IsEnough turns st.StartRecord text
  pub left : rest ≡ records_from default_config turns st.StartRecord text

-- what a reader of either kind has yet to give
abbrev pub EitherGives : RecordReader → List (List (List ℕ)) → Type 0
EitherGives (Lines text) rest = LinesGive text.now rest
EitherGives (Copies reader) rest = CopiesGive reader rest

-- The reader continues its text, and these are the records that are left.
pub record StillGives (reader : RecordReader) (rest : List (List (List ℕ))) : Type 0 where
  pub gives : EitherGives reader rest

-- the reader continues its text
abbrev pub HasLeft : RecordReader → Type 0
HasLeft reader = (rest : List (List (List ℕ))) × StillGives reader rest

-- The first of these records was read, and the reader gives the others.
pub record TookOne (fields : List (List ℕ)) (reader : RecordReader) (rest : List (List (List ℕ))) : Type 0 where
  pub more : List (List (List ℕ))
  pub split : rest ≡ fields ∷ more
  pub small : length fields ≤ TEXT_MOST + 1
  pub gives : StillGives reader more

-- a read took the first of these records, or there was none
abbrev pub TookFirst : Bool → List (List ℕ) → RecordReader → List (List (List ℕ)) → Type 0
TookFirst true fields reader rest = TookOne fields reader rest
TookFirst false fields reader rest = rest ≡ []
