use Rattle.std.proofs.Common.{◌≡◌, map, take}
use Rattle.answer_rules.specs.Pieces.{chunk_value}
use Rattle.value_rules.specs.Values.{row}
use Rattle.chunk_row_scan.proofs.line.fill.Given as goal

abbrev pub invariant-loop-item : goal.invariant-loop-item
invariant-loop-item l = l.values.items ≡ map (chunk_value (row l.first)) (take l.item-index l.items)
