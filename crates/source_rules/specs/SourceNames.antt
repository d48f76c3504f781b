-- The names of the columns of the source table.
use Rattle.std.specs.Prelude.{ℕ, List, [], ◌∷◌, ◌++◌, codes, Option}
use Rattle.std.specs.List.{position}
use Rattle.std.specs.Str.{bytes_eq}

-- the names of the columns that every source table has
abbrev pub first_source_names : List (List ℕ)
first_source_names = codes "sourceId" ∷ codes "objectId" ∷ []

-- the names of all columns in order, given those of the extra ones
abbrev pub source_column_names : List (List ℕ) → List (List ℕ)
source_column_names names = first_source_names ++ names

-- the number of the column with this name, from 0, and None if no column has it
abbrev pub source_column_of : List (List ℕ) → List ℕ → Option ℕ
source_column_of names name = position (bytes_eq name) (source_column_names names)
