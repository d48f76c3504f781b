use Rattle.std.proofs.Common.{◌≡◌, length, vec_capacity}
use Rattle.source_store.specs.ChunkColumns.{AreChunkColumns}
use Rattle.source_store.proofs.columns.chunk_columns.Given as goal

abbrev pub invariant-loop-chunk : goal.invariant-loop-chunk
invariant-loop-chunk l = record {
  are : AreChunkColumns l.sources l.lists l.chunk l.columns.items;
  room : vec_capacity l.columns ≡ length l.lists;
}
