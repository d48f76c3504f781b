use Rattle.std.proofs.Common.{◌≡◌, ◌++◌, ◌+◌, ◌<◌, ℕ, [], drop, get_or, map, length, vec_capacity}
use Rattle.std.specs.Vec.Iter.{into_iter_items, into_iter_len}
use Rattle.column_lists.specs.Columns.{no_rows}
use Rattle.column_lists.specs.Filling.{AreBegun}
use Rattle.chunk_store.specs.Lists.{block_at}
use Rattle.chunk_store.proofs.blocks.blocks_from.Given as goal

abbrev pub invariant-loop-lists : goal.invariant-loop-lists
invariant-loop-lists l = record {
  len : into_iter_len l.lists-iterator ≡ length (into_iter_items l.lists-iterator);
  count : length l.blocks.items + length (into_iter_items l.lists-iterator) ≡ length l.chunks;
  room : vec_capacity l.blocks ≡ length l.chunks;
  begun : (k : ℕ) → k < length (into_iter_items l.lists-iterator)
      → AreBegun l.table (get_or l.own (get_or l.chunks (length l.blocks.items + k) 0) []) (get_or (into_iter_items l.lists-iterator) k (no_rows 0));
  rest : l.blocks.items ++ map (λ chunk. block_at l.rows (get_or l.own chunk [])) (drop (length l.blocks.items) l.chunks)
      ≡ map (λ chunk. block_at l.rows (get_or l.own chunk [])) l.chunks;
}
