-- A text that is read in parts.
use Rattle.std.specs.Prelude.{◌≡◌, ◌≢◌, ℕ, ◌+◌, ◌-◌, ◌≤◌, List, [], ◌∷◌, ◌++◌, length, drop, get_or, All, None}
use Rattle.csv.specs.Reading.{default_config, records, strip_bom}
use Rattle.table_rules.specs.Forms.{Form}
use Rattle.table_rules.specs.Records.{faults_of_header}
use Rattle.record_text.specs.Judged.{Read}

-- whether a record as a whole has a fault does not depend on the number of its row
abbrev pub AreFaultsWithoutNumber : {R : Type 0} → Form R → Type 0
AreFaultsWithoutNumber form = (row other : ℕ) (fields : List (List ℕ)) → form.whole row fields ≡ [] → form.whole other fields ≡ []

-- A text in two parts, of which the first ends with a line feed.
pub record AreParts (text front behind : List ℕ) : Type 0 where
  pub whole : front ++ behind ≡ text
  pub ended : get_or front (length front - 1) 0 ≡ 10

-- The names of the extra columns, and the rows of all records of a part with no double quote, under an accepted header:
-- whatever the ids are, no record has a fault.
pub record IsReadUnder {R : Type 0} (form : Form R) (header names : List (List ℕ)) (rows : List R) (part : List ℕ) : Type 0 where
  pub right : faults_of_header form header ≡ []
  pub long : length form.first ≤ length header
  pub extra : names ≡ drop (length form.first) header
  pub unquoted : All (λ b. b ≢ 34) part
  pub read : Read form (length form.first + length names) rows None (records default_config part)

-- The names of the extra columns, and the rows of all records of a text after its header.
pub record IsReadWhole {R : Type 0} (form : Form R) (names : List (List ℕ)) (rows : List R) (text : List ℕ) : Type 0 where
  pub header : List (List ℕ)
  pub rest : List (List (List ℕ))
  pub split : records default_config (strip_bom text) ≡ header ∷ rest
  pub right : faults_of_header form header ≡ []
  pub long : length form.first ≤ length header
  pub extra : names ≡ drop (length form.first) header
  pub read : Read form (length form.first + length names) rows None rest
