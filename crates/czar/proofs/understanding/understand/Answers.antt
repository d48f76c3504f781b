use Rattle.czar.proofs.Understood.{of_line, unread}
use Rattle.czar.proofs.understanding.understand.Goals as goal

pub read-requires : goal.read-requires
read-requires c = c.requires

pub returns-in-Ok : goal.returns-in-Ok
returns-in-Ok c = of_line c.args.schema.now c.args.text.now c.in-Ok.tree _ c.in-Ok.ensures.ok c.bound_over.ensures

pub returns-in-Err : goal.returns-in-Err
returns-in-Err c = unread c.args.schema.now c.args.text.now c.in-Err.stop _ c.in-Err.ensures.bad c.unread.ensures
