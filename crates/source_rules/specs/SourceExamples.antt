-- Records of worked examples of source tables.
use Rattle.std.specs.Prelude.{ℕ, ℤ, pos, negsuc, List, [], ◌∷◌, ◌++◌, codes, Option, Result}
use Rattle.table_rules.specs.Objects.{Obj}
use Rattle.table_rules.specs.declared.fault.LoadFault.{LoadFault}
use Rattle.table_rules.specs.Examples.{four}
use Rattle.source_rules.specs.Sources.{Source, SourceTable}
use Rattle.source_rules.specs.SourceNames.{first_source_names}
use Rattle.source_rules.specs.SourceRecords.{sources_of_records}

-- the header of the first two columns, a flux and a time
abbrev pub with_flux_and_time : List (List ℕ)
with_flux_and_time = four (codes "sourceId") (codes "objectId") (codes "flux") (codes "t")

-- the table of these records under the header of the first two columns
abbrev pub under_two : List (List (List ℕ)) → Result SourceTable LoadFault
under_two rows = sources_of_records (first_source_names ∷ rows)

-- the table of these records under the header with a flux and a time
abbrev pub under_four_names : List (List (List ℕ)) → Result SourceTable LoadFault
under_four_names rows = sources_of_records (with_flux_and_time ∷ rows)

-- two fields
abbrev pub two : List ℕ → List ℕ → List (List ℕ)
two a b = a ∷ b ∷ []

-- five sources, of objects 1, 4, 1, 99 and 5, out of order
abbrev pub five : List (List (List ℕ))
five =
    four (codes "103") (codes "1") (codes "12") (codes "2")
    ∷ four (codes "102") (codes "4") (codes "41") (codes "1")
    ∷ four (codes "101") (codes "1") (codes "11") []
    ∷ four (codes "105") (codes "5") (codes "51") (codes "2")
    ∷ four (codes "104") (codes "99") (codes "5") (codes "2")
    ∷ []

-- a source with these extra values
abbrev pub source : ℤ → ℤ → List (Option ℤ) → Source
source id object further = record { id = id; object = object; further = further }

-- a header of the given extra names
abbrev pub with_names : List (List ℕ) → List (List ℕ)
with_names names = first_source_names ++ names

-- an object without extra values
abbrev pub object : ℤ → ℤ → ℤ → ℤ → Obj
object id x y z = record { id = id; at = record { x = x; y = y; z = z }; further = [] }

-- two objects where the equator meets the first meridian, and one below it
abbrev pub three_objects : List Obj
three_objects =
    object (pos 1) (pos 268435456) (pos 0) (pos 0) ∷ object (pos 4) (pos 268435456) (negsuc 2) (pos 0)
    ∷ object (pos 5) (pos 268435456) (pos 0) (negsuc 0) ∷ []

-- five sources, the fourth with an objectId that no object has
abbrev pub five_sources : List Source
five_sources =
    source (pos 101) (pos 1) [] ∷ source (pos 102) (pos 4) [] ∷ source (pos 103) (pos 1) []
    ∷ source (pos 104) (pos 99) [] ∷ source (pos 105) (pos 5) [] ∷ []
