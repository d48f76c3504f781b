use Rattle.std.proofs.Common.{◌≡◌, ◌++◌, map, take}
use Rattle.answer_rules.specs.Finish.{column_value}
use Rattle.partial_rows.proofs.row_table.put_row.Given as goal

abbrev pub invariant-loop-item : goal.invariant-loop-item
invariant-loop-item l = l.values.items ≡ l.fn.values.items ++ map (column_value l.cells) (take l.item-index l.items)
