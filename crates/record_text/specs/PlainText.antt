-- Texts whose records are their lines: those without double quotes and carriage returns.
use Rattle.std.specs.Prelude.{◌≡◌, ◌≢◌, ◌⊎◌, ℕ, ◌≤◌, ◌<◌, Bool, true, false, List, [], length, map, take, get_or, All, None, Some}
use Rattle.std.specs.Borrow.{Bor}
use Rattle.csv.specs.Machine.{next_record}
use Rattle.csv.specs.Reading.{default_config}
use Rattle.csv.specs.declared.parser.State.TheVariants.{StartRecord, InField}

-- neither a double quote nor a carriage return
abbrev pub IsPlainByte : ℕ → Type 0
IsPlainByte b = (b ≢ 34) × (b ≢ 13)

-- a text without double quotes and carriage returns
abbrev pub IsPlain : List ℕ → Type 0
IsPlain text = All IsPlainByte text

-- neither a comma nor a line feed
abbrev pub IsFieldByte : ℕ → Type 0
IsFieldByte b = (b ≢ 44) × (b ≢ 10)

-- the bytes of borrowed fields
abbrev pub bytes_of : List (Bor (List ℕ)) → List (List ℕ)
bytes_of fields = map (λ s. s.now) fields

-- The first field of the text has this many bytes: a comma or a line feed follows them, or nothing.
pub record EndsAt (text : List ℕ) (len : ℕ) : Type 0 where
  pub within : len ≤ length text
  pub inside : All IsFieldByte (take len text)
  pub ended : len < length text → (get_or text len 0 ≡ 44) ⊎ (get_or text len 0 ≡ 10)

-- After these fields of a record that starts with the text, `rest` is left of the text.
pub record ReadsOn (text : List ℕ) (fields : List (List ℕ)) (rest : List ℕ) : Type 0 where
  pub plain : IsPlain rest
  pub same : next_record default_config InField fields [] rest ≡ next_record default_config InField [] [] text

-- A record that starts with the text has these fields, and `rest` is left after it.
pub record IsLine (text : List ℕ) (fields : List (List ℕ)) (rest : List ℕ) : Type 0 where
  pub plain : IsPlain rest
  pub read : next_record default_config InField [] [] text ≡ Some (fields, StartRecord, rest)

-- The first record of the text has these fields, and `rest` is left after it.
pub record TookRecord (text : List ℕ) (fields : List (List ℕ)) (rest : List ℕ) : Type 0 where
  pub plain : IsPlain rest
  pub read : next_record default_config StartRecord [] [] text ≡ Some (fields, StartRecord, rest)

-- the first record was read, or there is none
abbrev pub TookLine : Bool → List ℕ → List (List ℕ) → List ℕ → Type 0
TookLine true text fields rest = TookRecord text fields rest
TookLine false text fields rest = next_record default_config StartRecord [] [] text ≡ None
