-- Lemmas about rows of any kind in ascending order of id, about the object table, and about accepted catalogues.
use Rattle.std.specs.Prelude.{◌≡◌, ℕ, ℤ, List, ◌∷◌, map, Ok}
use Rattle.std.specs.List.Sorted.{IsPermutation}
use Rattle.table_rules.specs.Objects.{Obj, Catalogue, IsCatalogue, IsTable}
use Rattle.table_rules.specs.IdOrder.{HaveDistinctIds, IsInOrder, in_id_order}
use Rattle.table_rules.specs.Ordered.{by_id, AreApart}
use Rattle.table_rules.specs.Records.{catalogue_of_records, row_of}

-- rows no two of which have the same id have a table: they are its rows in ascending order of id
abbrev pub DistinctAreInOrder : {R : Type 0} → (R → ℤ) → Type 0
DistinctAreInOrder {R} id_of = (rows : List R) → HaveDistinctIds id_of rows → IsInOrder id_of rows (in_id_order id_of rows)

-- rows have no other table
abbrev pub OneOrder : {R : Type 0} → (R → ℤ) → Type 0
OneOrder {R} id_of = (rows table : List R) → IsInOrder id_of rows table → table ≡ in_id_order id_of rows

-- the catalogue that records are accepted as is within the limits
abbrev pub AcceptedIsCatalogue : Type 0
AcceptedIsCatalogue =
    (records : List (List (List ℕ))) (c : Catalogue) → catalogue_of_records records ≡ Ok c → IsCatalogue c

-- the rows of an accepted catalogue are those of its data rows, each once
abbrev pub ObjectsAreTheDataRows : Type 0
ObjectsAreTheDataRows =
    (header : List (List ℕ)) (rows : List (List (List ℕ))) (c : Catalogue)
    → catalogue_of_records (header ∷ rows) ≡ Ok c → IsPermutation (map row_of rows) c.objects

-- rows of the object table no two of which have the same id have a table: they are its rows in ascending order of id
abbrev pub ApartHaveATable : Type 0
ApartHaveATable = (rows : List Obj) → AreApart rows → IsTable rows (by_id rows)

-- rows of the object table have no other table
abbrev pub OneTable : Type 0
OneTable = (rows table : List Obj) → IsTable rows table → table ≡ by_id rows
