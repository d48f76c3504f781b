use Rattle.std.proofs.Common.{◌≡◌, ◌<◌, ℕ, [], get_or, length, vec_capacity}
use Rattle.column_lists.specs.Columns.{no_rows}
use Rattle.column_lists.specs.Filling.{AreBegun}
use Rattle.chunk_store.proofs.blocks.empty_blocks.Given as goal

abbrev pub invariant-loop-chunk : goal.invariant-loop-chunk
invariant-loop-chunk l = record {
  count : length l.blocks.items ≡ l.chunk-index;
  room : vec_capacity l.blocks ≡ length l.fn.chunks;
  each : (k : ℕ) → k < l.chunk-index → AreBegun l.table (get_or l.own (get_or l.fn.chunks k 0) []) (get_or l.blocks.items k (no_rows 0));
}
