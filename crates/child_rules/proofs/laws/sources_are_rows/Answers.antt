use Rattle.child_rules.proofs.Reading.{bounds_are_kept, columns_are_read, source_is_a_row}
use Rattle.child_rules.proofs.laws.sources_are_rows.Goals as goal

pub returns-clause-read : goal.returns-clause-read
returns-clause-read c = columns_are_read

pub returns-clause-kept : goal.returns-clause-kept
returns-clause-kept c = bounds_are_kept

pub returns-clause-row : goal.returns-clause-row
returns-clause-row c = source_is_a_row
