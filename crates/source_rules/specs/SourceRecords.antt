-- The source table that the records of a text are, or the first of their faults.
-- The first record is the header, and the others are the sources, numbered from 1. Columns are numbered from 0, and in a
-- fault from 1.
use Rattle.std.specs.Prelude.{ℕ, ℤ, pos, neg_ℤ, nat_le, if◌then◌else◌, List, [], map, drop, Result}
use Rattle.text_rules.specs.Numbers.{int_of}
use Rattle.table_rules.specs.Records.{number_in, table_of}
use Rattle.table_rules.specs.declared.limits.TheConstants.{FURTHER_MOST}
use Rattle.table_rules.specs.declared.fault.LoadFault.{LoadFault}
use Rattle.table_rules.specs.Forms.{Form}
use Rattle.source_rules.specs.Sources.{Source, SourceTable, source_bound}
use Rattle.source_rules.specs.SourceNames.{first_source_names}
use Rattle.source_rules.specs.declared.limits.TheConstants.{SOURCE_FIRST_COLUMNS}

-- the id of a source
abbrev pub id_of_source : Source → ℤ
id_of_source s = s.id

-- the least value in a column: ids are from 0
abbrev pub source_least : ℕ → ℤ
source_least col = if nat_le col 1 then pos 0 else neg_ℤ (pos FURTHER_MOST)

-- the source that a record spells; an empty extra field is no number, and so it is NULL
abbrev pub source_of : List (List ℕ) → Source
source_of fields = record {
  id = number_in fields 0;
  object = number_in fields 1;
  further = map int_of (drop SOURCE_FIRST_COLUMNS fields);
}

-- the form of the source table: a record as a whole has no fault of its own
abbrev pub source_form : Form Source
source_form = record {
  first = first_source_names;
  least = source_least;
  most = source_bound;
  row = source_of;
  id = id_of_source;
  whole = λ row fields. [];
}

-- the table with these extra columns and these sources
abbrev pub with_sources : List (List ℕ) → List Source → SourceTable
with_sources names sources = record { names = names; sources = sources }

-- the source table that all the records of a text are, or their first fault
abbrev pub sources_of_records : List (List (List ℕ)) → Result SourceTable LoadFault
sources_of_records records = table_of source_form with_sources records
