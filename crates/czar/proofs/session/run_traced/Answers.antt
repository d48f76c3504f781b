use Rattle.std.proofs.Common.{rules}
use Rattle.czar.proofs.Driving.{driven}
use Rattle.czar.proofs.Tracing.{ends_trace}
use Rattle.czar.proofs.session.run_traced.Goals as goal

pub query_ends-requires-clause-driven : goal.query_ends-requires-clause-driven
query_ends-requires-clause-driven g c = λ κs lives. driven c.in-Ok.ensures.over.by (search rules) (search rules)

pub returns-in_ok-journal-in-Ok-clause-trace : goal.returns-in_ok-journal-in-Ok-clause-trace
returns-in_ok-journal-in-Ok-clause-trace g c =
    ends_trace _ c.in-Ok.ensures.plans c.in-Ok.ensures.over c.in_ok-journal-in-Ok.ensures c.in_ok-ends-in-Ok.ensures.ended
    (search rules) (search rules) (search rules)
