use Rattle.demo_rules.proofs.Catalogues.{demo_is_a_catalogue}
use Rattle.demo_rules.proofs.laws.demo_is_a_catalogue.Goals as goal

pub returns : goal.returns
returns c = demo_is_a_catalogue
