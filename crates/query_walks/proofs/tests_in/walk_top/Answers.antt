use Rattle.query_walks.proofs.Walked.{walked}
use Rattle.query_walks.proofs.tests_in.walk_top.Goals as goal

pub returns : goal.returns
returns g c = rw (walked c.args.cond.now) at c.walk_cond.ensures
