use Rattle.std.proofs.Common.{subst}
use Rattle.sql_rules.specs.PrintedExprs.{Bytes}
use Rattle.child_session.specs.ChildPlans.{ChildPlanFor}
use Rattle.child_session.proofs.EachPlan.{one_planned}
use Rattle.child_session.proofs.plan.push_plan.Goals as goal

pub returns-in_ok-push-in-Ok : goal.returns-in_ok-push-in-Ok
returns-in_ok-push-in-Ok c =
    let planned = subst (λ (t : Bytes). ChildPlanFor c.args.world.now t c.in-Ok.plan) c.text_of.ensures.text c.in-Ok.ensures in
    rw c.in_ok-push-in-Ok.ensures.items
    (one_planned c.query_lines_are_query_texts.ensures c.args.world.now c.args.script.now c.args.before c.args.plans.now.items c.in-Ok.plan c.requires.there c.requires.plans planned)
