use Rattle.czar.proofs.Planning.{known, unknown}
use Rattle.czar.proofs.plan.plan_understood.Goals as goal

pub returns-in-Unknown : goal.returns-in-Unknown
returns-in-Unknown c = unknown c.args.world.now.plan c.args.world.now.rows c.args.understanding c.in-Unknown.why c.in-Unknown.is

pub returns-in-Known : goal.returns-in-Known
returns-in-Known c =
    known c.args.world.now.plan c.args.world.now.rows c.args.understanding c.in-Known.tree c.in-Known.bound _ c.in-Known.is c.plan_known-plan.ensures
