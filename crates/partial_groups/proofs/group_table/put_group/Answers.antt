use Rattle.std.proofs.Common.{List, subst, sym, ◌∙◌}
use Rattle.std.specs.List.{All}
use Rattle.answer_rules.specs.declared.value.Value.{Value}
use Rattle.answer_rules.specs.Finish.{merged_value}
use Rattle.partial_groups.specs.Groups.{group_of}
use Rattle.answer_table.specs.Tables.{IsShort}
use Rattle.answer_table.proofs.Tabling.{one_value_more, short_too}
use Rattle.partial_groups.proofs.group_table.put_group.Goals as goal

pub loop-item-preserved : goal.loop-item-preserved
loop-item-preserved c = record {
  items = one_value_more (merged_value c.args.keys.now (group_of c.args.tallies.now c.args.group.now)) c.args.items.now c.loop-item.item-index c.item-item.result c.args.values.now.items c.loop-item.values.items c.put.new.values.items c.table_value.result c.loop-item-test.true c.item-item.is (c.table_value.ensures ∙ c.merged.ensures.value) c.in_ok-put.ensures c.loop-item.invariant.items;
  short = subst (λ (vs : List Value). All IsShort vs) (sym c.in_ok-put.ensures) (short_too c.loop-item.values.items c.table_value.result c.loop-item.invariant.short (subst IsShort (sym c.table_value.ensures) c.merged.ensures.short));
}
