use Rattle.query_walks.proofs.Firsts.{first_of_none}
use Rattle.bind_checks.proofs.names.unknown_in_item.Goals as goal

pub returns-in-None : goal.returns-in-None
returns-in-None g c = rw (← c.in-None.ensures) (first_of_none _ _)
