use Rattle.std.proofs.Common.{sym}
use Rattle.std.specs.Prelude.{codes}
use Rattle.std.specs.Fmt.{signed_decimal}
use Rattle.sky_io.proofs.Writes.{wrote_two}
use Rattle.sql_rules.specs.PrintedExprs.{text_if}
use Rattle.sql_print.proofs.ints.put_signed_int.Goals as goal

pub returns-in-Done : goal.returns-in-Done
returns-in-Done g c =
    rw (sym c.is_below_zero.ensures) (wrote_two _ _ _ (text_if c.is_below_zero.result (codes "-")) (signed_decimal c.args.int.now.size) _ c.in-Done.ensures c.put_size.ensures)
