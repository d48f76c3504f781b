use Rattle.std.proofs.Common.{codes}
use Rattle.sky_io.proofs.Writes.{wrote_one, wrote_two}
use Rattle.sql_print.proofs.Printing.{printed_parts}
use Rattle.sql_print.proofs.query.put_query.Goals as goal

pub returns-in-Failed : goal.returns-in-Failed
returns-in-Failed g c = rw (printed_parts c.args.query.now) (wrote_one _ _ (codes "SELECT ") _ c.in-Failed.ensures)

pub returns-in-Done : goal.returns-in-Done
returns-in-Done g c = rw (printed_parts c.args.query.now) (wrote_two _ _ _ (codes "SELECT ") _ _ c.in-Done.ensures c.put_from_items.ensures)
