use Rattle.std.proofs.Common.{rules}
use Rattle.czar.proofs.Driving.{driven}
use Rattle.czar.proofs.session.run_session.Goals as goal

pub query_ends-requires-clause-driven : goal.query_ends-requires-clause-driven
query_ends-requires-clause-driven g c = λ κs lives. driven c.in-Ok.ensures.over.by (search rules) (search rules)
