-- Records of worked examples.
use Rattle.std.specs.Prelude.{ℕ, ℤ, pos, negsuc, List, [], ◌∷◌, ◌++◌, codes, Option, Result}
use Rattle.table_rules.specs.Objects.{Obj, Catalogue}
use Rattle.table_rules.specs.Names.{first_names}
use Rattle.table_rules.specs.Records.{catalogue_of_records}
use Rattle.table_rules.specs.declared.fault.LoadFault.{LoadFault}

-- a record of four fields
abbrev pub four : List ℕ → List ℕ → List ℕ → List ℕ → List (List ℕ)
four a b c d = a ∷ b ∷ c ∷ d ∷ []

-- what the records of these data rows are under the header of the first four columns
abbrev pub under_four : List (List (List ℕ)) → Result Catalogue LoadFault
under_four rows = catalogue_of_records (first_names ∷ rows)

-- the header with an extra column
abbrev pub with_flux : List (List ℕ)
with_flux = first_names ++ (codes "flux" ∷ [])

-- a row on the first axis
abbrev pub meridian : List (List ℕ)
meridian = four (codes "1") (codes "268435456") (codes "0") (codes "0")

-- a row at the pole with the same id
abbrev pub pole : List (List ℕ)
pole = four (codes "1") (codes "0") (codes "0") (codes "268435456")

-- a row at the other pole with a lower id
abbrev pub lower_id : List (List ℕ)
lower_id = four (codes "0") (codes "0") (codes "-0") (codes "-268435456")

-- the row on the first axis, with these extra values
abbrev pub on_meridian : List (Option ℤ) → Obj
on_meridian further = record { id = pos 1; at = record { x = pos 268435456; y = pos 0; z = pos 0 }; further = further }

-- the row of the lower id
abbrev pub at_lower_pole : Obj
at_lower_pole = record { id = pos 0; at = record { x = pos 0; y = pos 0; z = negsuc 268435455 }; further = [] }

-- twelve extra names
abbrev pub twelve : List (List ℕ)
twelve =
    four (codes "a") (codes "b") (codes "c") (codes "d")
    ++ (four (codes "e") (codes "f") (codes "g") (codes "h") ++ four (codes "i") (codes "j") (codes "k") (codes "_9"))

-- a name of 33 bytes
abbrev pub long_name : List ℕ
long_name = codes "abcdefghijabcdefghijabcdefghijabc"
