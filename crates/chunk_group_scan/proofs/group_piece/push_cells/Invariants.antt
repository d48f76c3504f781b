use Rattle.std.proofs.Common.{◌≡◌, ◌++◌, get_or, take}
use Rattle.sky_row.specs.Columns.{no_row}
use Rattle.answer_rules.specs.Keys.{key_of}
use Rattle.value_rules.specs.Values.{row}
use Rattle.chunk_group_scan.proofs.group_piece.push_cells.Given as goal

abbrev pub invariant-loop-key : goal.invariant-loop-key
invariant-loop-key l = l.cells.items ≡ l.fn.cells.items ++ key_of (take l.key-index l.keys) (row (get_or l.block.objects l.place no_row))
