-- Rows as columns: a list of values for each column, in which equal indexes belong to the same row.
use Rattle.std.specs.Prelude.{◌≡◌, ℕ, ◌+◌, ◌<◌, Bool, true, false, ◌⊎◌, List, [], ◌∷◌, ◌++◌, length, map, take, replicate, get_or, All, Option, None, Some, unwrap_or, if◌then◌else◌, ℤ, pos}
use Rattle.std.specs.List.{range_with_len}
use Rattle.table_rules.specs.Objects.{Obj, IsRow, cell}

-- the value at an index of a column, None for NULL; without a validity list every row has a value
abbrev pub cell_at : List ℤ → List Bool → ℕ → Option ℤ
cell_at values present i = if get_or present i true then Some (get_or values i (pos 0)) else None

-- all values of a column
abbrev pub cells_of : List ℤ → List Bool → List (Option ℤ)
cells_of values present = map (cell_at values present) (range_with_len 0 (length values))

-- the number that is stored for a value, or 0 for NULL
abbrev pub or_zero : Option ℤ → ℤ
or_zero cell = unwrap_or cell (pos 0)

-- A column as it is stored: a validity flag for each row or none at all, and 0 for NULL.
pub record IsKept (values : List ℤ) (present : List Bool) : Type 0 where
  pub presence : (present ≡ []) ⊎ (length present ≡ length values)
  pub zero : (i : ℕ) → get_or present i true ≡ false → get_or values i (pos 0) ≡ pos 0

-- the first n values found are those at the first n indexes
abbrev pub GathersUpTo : {X : Type 0} → ℕ → List X → List ℕ → List X → Type 0
GathersUpTo {X} n values places found = (k : ℕ) (d : X) → k < n → get_or found k d ≡ get_or values (get_or places k 0) d

-- Values of a list at given indexes, in the order of the indexes.
pub record IsGathered {X : Type 0} (values : List X) (places : List ℕ) (found : List X) : Type 0 where
  pub count : length found ≡ length places
  pub each : GathersUpTo (length places) values places found

-- The validity at given indexes: none at all if each is valid, else that of each index.
pub record IsPresenceAt (present : List Bool) (places : List ℕ) (found : List Bool) : Type 0 where
  pub presence : (found ≡ []) ⊎ (length found ≡ length places)
  pub each : (k : ℕ) → k < length places → get_or found k true ≡ get_or present (get_or places k 0) true

-- The columns of rows: their ids, the components of their positions, and a list for each extra column.
pub record Parts : Type 0 where
  pub ids : List ℤ
  pub xs : List ℤ
  pub ys : List ℤ
  pub zs : List ℤ
  pub further : List (List (Option ℤ))

-- the values of one row in each column
abbrev pub cells_in : List (List (Option ℤ)) → ℕ → List (Option ℤ)
cells_in columns i = map (λ column. get_or column i None) columns

-- the row with number i
abbrev pub row_at : Parts → ℕ → Obj
row_at p i = record {
  id = get_or p.ids i (pos 0);
  at = record { x = get_or p.xs i (pos 0); y = get_or p.ys i (pos 0); z = get_or p.zs i (pos 0) };
  further = cells_in p.further i;
}

-- all rows, in the order of their numbers
abbrev pub objects_of : Parts → List Obj
objects_of p = map (row_at p) (range_with_len 0 (length p.ids))

-- the given number of extra columns without rows
abbrev pub no_rows : ℕ → Parts
no_rows width = record { ids = []; xs = []; ys = []; zs = []; further = replicate width [] }

-- each extra column with one more value, one for each column
unfoldable pub cells_behind : List (List (Option ℤ)) → List (Option ℤ) → List (List (Option ℤ))
cells_behind [] cells = []
cells_behind (column ∷ columns) [] = column ∷ columns
cells_behind (column ∷ columns) (value ∷ values) = (column ++ value ∷ []) ∷ cells_behind columns values

-- the columns with one more row
abbrev pub row_behind : Parts → Obj → Parts
row_behind p o = record {
  ids = p.ids ++ o.id ∷ [];
  xs = p.xs ++ o.at.x ∷ [];
  ys = p.ys ++ o.at.y ∷ [];
  zs = p.zs ++ o.at.z ∷ [];
  further = cells_behind p.further o.further;
}

-- each extra column with the values of its counterpart appended
unfoldable pub columns_appended : List (List (Option ℤ)) → List (List (Option ℤ)) → List (List (Option ℤ))
columns_appended [] others = []
columns_appended (column ∷ columns) [] = column ∷ columns
columns_appended (column ∷ columns) (other ∷ others) = (column ++ other) ∷ columns_appended columns others

-- the columns with the rows of another table appended
abbrev pub rows_appended : Parts → Parts → Parts
rows_appended p q = record {
  ids = p.ids ++ q.ids;
  xs = p.xs ++ q.xs;
  ys = p.ys ++ q.ys;
  zs = p.zs ++ q.zs;
  further = columns_appended p.further q.further;
}

-- The validity of a column with another's appended: none at all, or a flag for each row.
pub record IsPresenceOfBoth (count more : ℕ) (present shown found : List Bool) : Type 0 where
  pub presence : (found ≡ []) ⊎ (length found ≡ count + more)
  pub front : (k : ℕ) → k < count → get_or found k true ≡ get_or present k true
  pub behind : (k : ℕ) → get_or found (count + k) true ≡ get_or shown k true

-- the first n rows
abbrev pub first_rows : ℕ → Parts → Parts
first_rows n p = record {
  ids = take n p.ids;
  xs = take n p.xs;
  ys = take n p.ys;
  zs = take n p.zs;
  further = map (take n) p.further;
}

-- Columns of one length.
pub record AreAligned (p : Parts) : Type 0 where
  pub xs : length p.xs ≡ length p.ids
  pub ys : length p.ys ≡ length p.ids
  pub zs : length p.zs ≡ length p.ids
  pub further : All (λ column. length column ≡ length p.ids) p.further

-- the list `front` is a prefix of `whole`
abbrev pub IsFront : {X : Type 0} → List X → List X → Type 0
IsFront {X} front whole = take (length front) whole ≡ front

-- the first rows of the new columns are the rows of the old ones
abbrev pub Begins : Parts → Parts → Type 0
Begins old new = first_rows (length old.ids) new ≡ old

-- the rows with these numbers
abbrev pub rows_at : Parts → List ℕ → Parts
rows_at p places = record {
  ids = map (λ place. get_or p.ids place (pos 0)) places;
  xs = map (λ place. get_or p.xs place (pos 0)) places;
  ys = map (λ place. get_or p.ys place (pos 0)) places;
  zs = map (λ place. get_or p.zs place (pos 0)) places;
  further = map (λ column. map (λ place. get_or column place None) places) p.further;
}

-- Columns of one length, whose rows are rows of an object table.
pub record AreRows (p : Parts) : Type 0 where
  pub aligned : AreAligned p
  pub rows : (i : ℕ) → i < length p.ids → IsRow (row_at p i)
