-- Where runs begin among adjacent rows: at each row whose key may differ from that of the row before.
use Rattle.std.specs.Prelude.{◌≡◌, ℕ, ◌+◌, ◌<◌, ℤ, Bool, false, List, length, get_or, Option, None}
use Rattle.table_rules.specs.Objects.{Obj}
use Rattle.sky_row.specs.Columns.{no_row}
use Rattle.sql_bound.specs.declared.expr.BoundCol.{BoundCol}
use Rattle.value_rules.specs.Values.{row}
use Rattle.answer_rules.specs.Keys.{key_of}

-- a row that is not marked has the key of the row before it
abbrev pub AreStarts : List BoundCol → List Obj → List Bool → Type 0
AreStarts keys objects starts =
    (j : ℕ) → j + 1 < length objects → get_or starts (j + 1) false ≡ false
    → key_of keys (row (get_or objects (j + 1) no_row)) ≡ key_of keys (row (get_or objects j no_row))

-- no mark is removed, and a row that is not marked has the value of the row before it, by a function of row numbers
abbrev pub IsMarkedBy : {X : Type 0} → (ℕ → X) → List ℕ → List Bool → List Bool → Type 0
IsMarkedBy value places old new =
    (j : ℕ) → j + 1 < length places → get_or new (j + 1) false ≡ false
    → (get_or old (j + 1) false ≡ false) × (value (get_or places (j + 1) 0) ≡ value (get_or places j 0))

-- no mark is removed, and a row that is not marked has the same value in a column as the row before it
abbrev pub IsMarked : List (Option ℤ) → List ℕ → List Bool → List Bool → Type 0
IsMarked column places old new = IsMarkedBy (λ place. get_or column place None) places old new
