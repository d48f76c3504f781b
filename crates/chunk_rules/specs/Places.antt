-- Rows by their row numbers: a row's number in the table, from 0.
use Rattle.std.specs.Prelude.{◌≡◌, ℕ, Bool, false, List, length, Option, None, Some, option_to_list, slice_get, filter}
use Rattle.std.specs.List.{flat_map, range_with_len}
use Rattle.table_rules.specs.Objects.{Obj}

-- there is an object, and it passes the test
abbrev pub passes : (Obj → Bool) → Option Obj → Bool
passes test None = false
passes test (Some o) = test o

-- the row numbers of the objects that pass the test, ascending
abbrev pub places_by : (Obj → Bool) → List Obj → List ℕ
places_by test objects = filter (λ i. passes test (slice_get objects i)) (range_with_len 0 (length objects))

-- the objects with these row numbers; a number past the end has none
abbrev pub rows_at : List Obj → List ℕ → List Obj
rows_at objects places = flat_map (λ i. option_to_list (slice_get objects i)) places

-- taking the objects at the positions of those that pass a test is filtering by the test
abbrev pub RowsAtPlaces : Type 0
RowsAtPlaces = (test : Obj → Bool) (objects : List Obj) → rows_at objects (places_by test objects) ≡ filter test objects
