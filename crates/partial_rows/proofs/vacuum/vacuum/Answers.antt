use Rattle.partial_rows.specs.Multisets.{pushed_in, rows_in}
use Rattle.partial_rows.proofs.Vacuuming.{keeps_itself}
use Rattle.partial_rows.proofs.vacuum.vacuum.Goals as goal

pub returns-in-All-clause-kept : goal.returns-in-All-clause-kept
returns-in-All-clause-kept c = keeps_itself (pushed_in c.args.buffer.now) (rows_in c.args.cells.now.items c.args.buffer.now)
