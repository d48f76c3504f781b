use Rattle.std.proofs.Common.{ap, length, ◌∙◌}
use Rattle.answer_table.specs.Tables.{table_of}
use Rattle.partial_groups.proofs.Tabling.{lines_long, lines_table}
use Rattle.partial_groups.proofs.group_table.line_table.Goals as goal

pub of-requires-clause-long : goal.of-requires-clause-long
of-requires-clause-long c = ap length c.in_ok-values.ensures.values ∙ lines_long c.args.tallies.now c.args.keys.now c.args.items.now c.args.lines.now

pub returns : goal.returns
returns c =
    c.of.ensures ∙ ap (table_of (length c.args.lines.now) (length c.args.items.now)) c.in_ok-values.ensures.values
    ∙ lines_table c.args.tallies.now c.args.keys.now c.args.items.now c.args.lines.now
