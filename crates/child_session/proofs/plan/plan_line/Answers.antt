use Rattle.child_session.proofs.Planning.{of_line, unread_plan}
use Rattle.child_session.proofs.plan.plan_line.Goals as goal

pub returns-in-Ok : goal.returns-in-Ok
returns-in-Ok c = of_line c.args.world.now c.args.text.now c.in-Ok.tree _ c.in-Ok.ensures.ok c.plan_tree.ensures

pub returns-in-Err : goal.returns-in-Err
returns-in-Err c = unread_plan c.args.world.now c.args.text.now c.in-Err.stop _ c.in-Err.ensures.bad c.unread.ensures
