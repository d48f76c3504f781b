use Rattle.std.proofs.Common.{rules, subst, List, [], append-nil, Option}
use Rattle.std.specs.Iterator.Adapters.{zip_first, zip_second, zip_steps}
use Rattle.std.specs.Vec.Iter.{into_iter_items, into_iter_steps}
use Rattle.scan_session.specs.declared.end.End.{End as BoardEnd}
use Rattle.query_ends.specs.Ended.{AreEnded}
use Rattle.query_ends.specs.declared.end.End.{End}
use Rattle.query_ends.specs.declared.plan.QueryPlan.{QueryPlan}
use Rattle.query_ends.proofs.Pairs.{none_left}
use Rattle.query_ends.proofs.finish.all_query_ends.Goals as goal

pub returns : goal.returns
returns g c =
    let at = c.loop-plan.invariant in
    let plans = into_iter_items (zip_first c.into_iter-plan-iterator.result) in
    let ends = into_iter_items (zip_second c.into_iter-plan-iterator.result) in
    let answers = g.F.QueryForm.answers in
    let all : (qs : List End) → AreEnded answers plans ends qs → AreEnded answers c.args.plans.items c.args.ends.items qs = search rules in
    let steps =
    subst (λ (o : Option (QueryPlan g.row.Q.Denot × BoardEnd g.row.P.Denot)). zip_steps into_iter_steps into_iter_steps c.loop-plan.plan-iterator o c.next.new.self)
    c.in-None.is c.next.ensures.steps in
    all c.loop-plan.query_ends.items (subst (λ (qs : List End). AreEnded answers plans ends qs) (append-nil c.loop-plan.query_ends.items)
    (at.ended [] (none_left g.F.QueryForm.may_answer answers _ _ _ _ at.plans_len at.ends_len at.may steps)))
