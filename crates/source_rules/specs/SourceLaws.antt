-- Lemmas about accepted source tables.
use Rattle.std.specs.Prelude.{◌≡◌, ℕ, List, ◌∷◌, map, Ok}
use Rattle.std.specs.List.Sorted.{IsPermutation}
use Rattle.source_rules.specs.Sources.{SourceTable, IsSourceTable}
use Rattle.source_rules.specs.SourceRecords.{sources_of_records, source_of}

-- the table that records are accepted as is within the limits
abbrev pub AcceptedIsASourceTable : Type 0
AcceptedIsASourceTable =
    (records : List (List (List ℕ))) (t : SourceTable) → sources_of_records records ≡ Ok t → IsSourceTable t

-- the sources of an accepted table are those of its records, each once
abbrev pub SourcesAreTheRecords : Type 0
SourcesAreTheRecords =
    (header : List (List ℕ)) (rows : List (List (List ℕ))) (t : SourceTable)
    → sources_of_records (header ∷ rows) ≡ Ok t → IsPermutation (map source_of rows) t.sources
