use Rattle.std.proofs.Common.{◌≡◌, ◌++◌, All, map, take}
use Rattle.answer_rules.specs.Finish.{merged_value}
use Rattle.partial_groups.specs.Groups.{group_of}
use Rattle.answer_table.specs.Tables.{IsShort}
use Rattle.partial_groups.proofs.group_table.put_group.Given as goal

abbrev pub invariant-loop-item : goal.invariant-loop-item
invariant-loop-item l = record {
  items : l.values.items ≡ l.fn.values.items ++ map (merged_value l.keys (group_of l.tallies l.group)) (take l.item-index l.items);
  short : All IsShort l.values.items;
}
