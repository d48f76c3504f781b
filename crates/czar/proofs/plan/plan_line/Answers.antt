use Rattle.czar.proofs.Planning.{of_line}
use Rattle.czar.proofs.plan.plan_line.Goals as goal

pub returns-in-Ok : goal.returns-in-Ok
returns-in-Ok c =
    of_line c.args.world.now.plan c.args.world.now.rows c.args.text.now c.in-Ok.understanding _ (rw (c.schema.ensures, c.rows.ensures) at c.in-Ok.ensures) c.plan_understood.ensures
