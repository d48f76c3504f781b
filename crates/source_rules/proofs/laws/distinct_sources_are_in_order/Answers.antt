use Rattle.table_rules.proofs.Order.{distinct_in_order, one_order}
use Rattle.source_rules.specs.SourceRecords.{id_of_source}
use Rattle.source_rules.proofs.laws.distinct_sources_are_in_order.Goals as goal

pub returns-clause-table : goal.returns-clause-table
returns-clause-table c = distinct_in_order id_of_source

pub returns-clause-only : goal.returns-clause-only
returns-clause-only c = one_order id_of_source
