use Rattle.std.proofs.Common.{◌≡◌, map, take}
use Rattle.sky_row.specs.Columns.{objects_at}
use Rattle.chunk_row_scan.specs.Computed.{item_on}
use Rattle.chunk_row_scan.proofs.columns.columns.Given as goal

abbrev pub invariant-loop-item : goal.invariant-loop-item
invariant-loop-item l = l.columns.items ≡ map (item_on (objects_at l.block.objects l.places)) (take l.item-index l.items)
