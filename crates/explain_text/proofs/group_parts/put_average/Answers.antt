use Rattle.sky_io.proofs.Writes.{wrote_one, wrote_two}
use Rattle.column_text.proofs.Parting.{as_text, two_parts}
use Rattle.std.proofs.Common.{codes, ◌++◌}
use Rattle.sql_rules.specs.PrintedExprs.{in_brackets, print_expr}
use Rattle.explain_text.proofs.group_parts.put_average.Goals as goal

pub returns-in-Failed : goal.returns-in-Failed
returns-in-Failed g c = as_text _ _ _ _ _ (two_parts c.args.begun (codes "SUM" ++ in_brackets (print_expr c.args.e.now)) (codes "COUNT" ++ in_brackets (print_expr c.args.e.now))) (wrote_one _ _ _ _ c.in-Failed.ensures)

pub returns-in-Done : goal.returns-in-Done
returns-in-Done g c = as_text _ _ _ _ _ (two_parts c.args.begun (codes "SUM" ++ in_brackets (print_expr c.args.e.now)) (codes "COUNT" ++ in_brackets (print_expr c.args.e.now))) (wrote_two _ _ _ _ _ _ c.in-Done.ensures c.put_further_count.ensures)
