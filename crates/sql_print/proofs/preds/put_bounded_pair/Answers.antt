use Rattle.sky_io.proofs.Writes.{wrote_two}
use Rattle.sql_print.proofs.preds.put_bounded_pair.Goals as goal

pub returns-in-Done : goal.returns-in-Done
returns-in-Done g c = wrote_two _ _ _ _ _ _ c.in-Done.ensures (rw (c.cmp_text.ensures, c.chord_op.ensures) at c.put_led_size.ensures)
