-- The faults of the fields that every source has, sourceId and objectId.
use Rattle.std.specs.Prelude.{ℕ, List, ◌++◌}
use Rattle.table_rules.specs.declared.fault.LoadFault.{LoadFault}
use Rattle.record_text.specs.Faults.{id_faults}

-- the faults of the two ids of a record
abbrev pub ids_faults : ℕ → List (List ℕ) → List LoadFault
ids_faults row fields = id_faults row 0 fields ++ id_faults row 1 fields
