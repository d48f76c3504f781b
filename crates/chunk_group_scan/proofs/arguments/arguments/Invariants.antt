use Rattle.std.proofs.Common.{◌≡◌, map, take}
use Rattle.sky_row.specs.Columns.{objects_at}
use Rattle.chunk_group_scan.specs.States.{argument_of}
use Rattle.chunk_group_scan.proofs.arguments.arguments.Given as goal

abbrev pub invariant-loop-item : goal.invariant-loop-item
invariant-loop-item l = l.arguments.items ≡ map (argument_of (objects_at l.block.objects l.places)) (take l.item-index l.items)
