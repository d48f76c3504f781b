-- The source table that a text spells, or its first fault.
use Rattle.std.specs.Prelude.{ℕ, List, Result}
use Rattle.csv.specs.Reading.{default_config, records, strip_bom}
use Rattle.table_rules.specs.declared.fault.LoadFault.{LoadFault}
use Rattle.source_rules.specs.Sources.{SourceTable}
use Rattle.source_rules.specs.SourceRecords.{sources_of_records}

-- the meaning of the text's records, as `csv` reads them: a leading byte order mark is dropped, fields are separated by
-- commas and may be in double quotes, and records have any number of fields
abbrev pub sources_of_text : List ℕ → Result SourceTable LoadFault
sources_of_text text = sources_of_records (records default_config (strip_bom text))
