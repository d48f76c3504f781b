use Rattle.czar.proofs.Understood.{bound, unfit}
use Rattle.czar.proofs.understanding.bound_over.Goals as goal

pub returns-in-Ok : goal.returns-in-Ok
returns-in-Ok c = record { each = λ text read. bound c.args.schema.now text c.args.tree c.in-Ok.bound read c.in-Ok.ensures.ok }

pub returns-in-Err : goal.returns-in-Err
returns-in-Err c = unfit c.args.schema.now c.args.tree c.in-Err.stop _ c.in-Err.ensures.bad c.unbound.ensures
