use Rattle.czar.proofs.Stopping.{stopped}
use Rattle.czar.proofs.form.answer_of.Goals as goal

pub returns-in-Err : goal.returns-in-Err
returns-in-Err c = stopped c.args.head c.args.chunks _ c.in-Err.stop _ c.in-Err.ensures.out c.out_of_range.ensures
