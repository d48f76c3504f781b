-- The faults of parts of a record and of a header.
use Rattle.std.specs.Prelude.{ℕ, ◌+◌, ◌-◌, ◌==◌, pos, neg_ℤ, if◌then◌else◌, List, [], length, Option, slice_get}
use Rattle.std.specs.List.{flat_map, range_with_len}
use Rattle.text_rules.specs.Numbers.{int_of}
use Rattle.table_rules.specs.declared.fault.LoadFault.{LoadFault}
use Rattle.table_rules.specs.declared.fault.LoadFault.TheVariants.{Header}
use Rattle.table_rules.specs.declared.limits.TheConstants.{FURTHER_MOST, ID_MOST}
use Rattle.table_rules.specs.Records.{faults_between, field_in, right_in, unless}
use Rattle.table_rules.specs.Forms.{Form}

-- the first of these faults
abbrev pub first_of : List LoadFault → Option LoadFault
first_of faults = slice_get faults 0

-- the fault of a field that has to be an id
abbrev pub id_faults : ℕ → ℕ → List (List ℕ) → List LoadFault
id_faults row col fields = faults_between (pos 0) (pos ID_MOST) row col (int_of (field_in fields col))

-- the fault of a field that has to be an extra value: an empty one is NULL
abbrev pub cell_faults : ℕ → ℕ → List ℕ → List LoadFault
cell_faults row col field =
    if length field == 0 then [] else faults_between (neg_ℤ (pos FURTHER_MOST)) (pos FURTHER_MOST) row col (int_of field)

-- the faults of the extra values of a record from this column on
abbrev pub faults_from : ℕ → ℕ → List (List ℕ) → List LoadFault
faults_from row col fields =
    flat_map (λ c. cell_faults row c (field_in fields c)) (range_with_len col (length fields - col))

-- the fault of a header in a column
abbrev pub header_fault : {R : Type 0} → Form R → List (List ℕ) → ℕ → List LoadFault
header_fault form header col = unless (right_in form header col) (Header (col + 1))

-- the faults of a header from this column on
abbrev pub header_faults_from : {R : Type 0} → Form R → ℕ → List (List ℕ) → List LoadFault
header_faults_from form col header = flat_map (header_fault form header) (range_with_len col (length header - col))
