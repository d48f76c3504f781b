use Rattle.sky_io.proofs.Writes.{wrote_two}
use Rattle.sql_print.proofs.ints.put_led_size.Goals as goal

pub returns-in-Done : goal.returns-in-Done
returns-in-Done g c = wrote_two _ _ _ _ _ _ c.in-Done.ensures c.put_size.ensures
