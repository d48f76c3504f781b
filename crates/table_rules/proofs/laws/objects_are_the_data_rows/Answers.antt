use Rattle.table_rules.proofs.Catalogues.{objects_are_the_data_rows}
use Rattle.table_rules.proofs.laws.objects_are_the_data_rows.Goals as goal

pub returns : goal.returns
returns c = objects_are_the_data_rows
