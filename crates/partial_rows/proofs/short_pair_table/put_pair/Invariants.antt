use Rattle.std.proofs.Common.{◌≡◌, ◌++◌, map, take}
use Rattle.answer_rules.specs.Finish.{column_value}
use Rattle.partial_rows.specs.PackedKeys.{pair_in}
use Rattle.partial_rows.specs.Pairs.{pair_row}
use Rattle.partial_rows.proofs.short_pair_table.put_pair.Given as goal

abbrev pub invariant-loop-item : goal.invariant-loop-item
invariant-loop-item l = l.values.items ≡ l.fn.values.items ++ map (column_value (pair_row (pair_in l.key)).cells) (take l.item-index l.items)
