use Rattle.table_rules.proofs.Catalogues.{one_table}
use Rattle.table_rules.proofs.laws.one_table.Goals as goal

pub returns : goal.returns
returns c = one_table
