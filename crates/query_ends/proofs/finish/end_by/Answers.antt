use Rattle.std.proofs.Common.{sym, subst}
use Rattle.std.specs.Result.{IfOk}
use Rattle.query_ends.specs.Ended.{IsEnded}
use Rattle.query_ends.specs.declared.plan.QueryPlan.{QueryPlan}
use Rattle.query_ends.proofs.finish.end_by.Goals as goal

pub returns-in-Planned : goal.returns-in-Planned
returns-in-Planned g c =
    subst (λ (p : QueryPlan g.row.Q.Denot). IfOk c.planned_end-end.result (λ end. IsEnded g.F.QueryForm.answers p c.args.end end))
    (sym c.in-Planned.is) c.planned_end-end.ensures
