use Rattle.table_rules.proofs.Catalogues.{apart_have_a_table}
use Rattle.table_rules.proofs.laws.apart_have_a_table.Goals as goal

pub returns : goal.returns
returns c = apart_have_a_table
