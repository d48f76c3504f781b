use Rattle.query_walks.proofs.Firsts.{first_of_none}
use Rattle.bind_checks.proofs.cond_names.unknown_in_where.Goals as goal

pub returns-in-None : goal.returns-in-None
returns-in-None g c = rw c.in-None.is (first_of_none _ _)
