use Rattle.std.proofs.Common.{arith}
use Rattle.session_script.specs.Views.{query_lines}
use Rattle.child_session.proofs.Attaching.{all_can_run}
use Rattle.child_session.proofs.EachPlan.{a_plan_each}
use Rattle.child_session.proofs.attach.board_for.Goals as goal

pub root_of-requires-clause-few : goal.root_of-requires-clause-few
root_of-requires-clause-few g c =
    let s = c.args.session.now in
    omega (arith, a_plan_each s.world.now s.script.now c.args.plans.now c.requires.plans, c.queries.ensures.count, c.queries.ensures.few)

pub root_of-requires-clause-child : goal.root_of-requires-clause-child
root_of-requires-clause-child g c =
    let s = c.args.session.now in
    all_can_run c.bound_can_be_run.ensures s.world.now (query_lines s.script.now) c.args.plans.now c.within_limits.ensures.rows c.within_limits.ensures.table c.requires.plans
