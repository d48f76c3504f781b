use Rattle.std.proofs.Common.{take}
use Rattle.chunk_group_scan.specs.Ungrouped.{AreCounted}
use Rattle.chunk_group_scan.proofs.ungrouped.all_counts.Given as goal

abbrev pub invariant-loop-item : goal.invariant-loop-item
invariant-loop-item l = AreCounted (take l.item-index l.items) l.counted.items
