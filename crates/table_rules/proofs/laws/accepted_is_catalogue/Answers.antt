use Rattle.table_rules.proofs.Catalogues.{accepted_is_catalogue}
use Rattle.table_rules.proofs.laws.accepted_is_catalogue.Goals as goal

pub returns : goal.returns
returns c = accepted_is_catalogue
