use Rattle.czar.proofs.Planning.{cut_is_planned, refused}
use Rattle.czar.proofs.plan.plan_over.Goals as goal

pub returns-in-Ok : goal.returns-in-Ok
returns-in-Ok c =
    cut_is_planned c.args.world.now.plan c.args.world.now.rows c.args.tree c.args.bound.now c.args.chunks _ c.requires.plan (rw c.plan.ensures at c.in-Ok.ensures.ok) c.cut_over.ensures

pub returns-in-Err : goal.returns-in-Err
returns-in-Err c =
    refused c.args.world.now.plan c.args.world.now.rows c.args.tree c.args.bound.now c.args.chunks c.in-Err.far c.requires.plan (rw c.plan.ensures at c.in-Err.ensures.err)
