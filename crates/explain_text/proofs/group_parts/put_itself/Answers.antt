use Rattle.sky_io.proofs.Writes.{wrote_one, wrote_two}
use Rattle.column_text.proofs.Parting.{as_text, one_part}
use Rattle.sql_rules.specs.Printed.{print_kind}
use Rattle.explain_text.proofs.group_parts.put_itself.Goals as goal

pub returns-in-Failed : goal.returns-in-Failed
returns-in-Failed g c = as_text _ _ _ _ _ (one_part c.args.begun (print_kind c.args.what.now)) (wrote_one _ _ _ _ c.in-Failed.ensures)

pub returns-in-Done : goal.returns-in-Done
returns-in-Done g c = as_text _ _ _ _ _ (one_part c.args.begun (print_kind c.args.what.now)) (wrote_two _ _ _ _ _ _ c.in-Done.ensures c.put_kind.ensures)
