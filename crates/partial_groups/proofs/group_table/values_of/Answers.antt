use Rattle.partial_groups.specs.Lines.{line_values}
use Rattle.answer_table.proofs.Tabling.{one_more}
use Rattle.partial_groups.proofs.group_table.values_of.Goals as goal

pub loop-line-preserved : goal.loop-line-preserved
loop-line-preserved c = record {
  items = one_more (line_values c.args.tallies.now c.args.keys.now c.args.items.now) c.args.lines.now c.loop-line.line-index c.line-item.result c.loop-line.values.items c.put_group.new.values.items c.loop-line-test.true c.line-item.is c.in_ok-put_group.ensures.values c.loop-line.invariant.items;
  short = c.in_ok-put_group.ensures.short;
}
