use Rattle.std.proofs.Common.{codes}
use Rattle.sky_io.proofs.Writes.{wrote_two}
use Rattle.sql_print.proofs.ints.put_further_int.Goals as goal

pub returns-in-Done : goal.returns-in-Done
returns-in-Done g c = wrote_two _ _ _ (codes ",") _ _ c.in-Done.ensures c.put_signed_int.ensures
