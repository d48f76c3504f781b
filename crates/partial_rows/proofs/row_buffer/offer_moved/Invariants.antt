use Rattle.std.proofs.Common.{◌++◌, ◌+◌, ◌≤◌, Some, length, map, take, heap_items, heap_len}
use Rattle.std.specs.BinaryHeap.{IsHeap, heap_capacity}
use Rattle.answer_rules.specs.Keeps.{KeepsFirst}
use Rattle.partial_rows.specs.Rows.{moved, rank_order}
use Rattle.partial_rows.proofs.row_buffer.offer_moved.Given as goal

abbrev pub invariant-loop-other : goal.invariant-loop-other
invariant-loop-other l = record {
  order : IsHeap rank_order (heap_items l.heap);
  few : length (heap_items l.heap) ≤ l.limit;
  room : heap_len l.heap + length l.others ≤ heap_capacity l.heap + l.other-index;
  kept : KeepsFirst rank_order (Some l.limit) (heap_items l.initial.heap ++ map (moved l.by) (take l.other-index l.others)) (heap_items l.heap);
}
