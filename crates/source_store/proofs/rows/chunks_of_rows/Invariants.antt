use Rattle.std.proofs.Common.{◌≡◌, length, vec_capacity}
use Rattle.source_store.specs.RowChunks.{AreRowChunks}
use Rattle.source_store.proofs.rows.chunks_of_rows.Given as goal

abbrev pub invariant-loop-row : goal.invariant-loop-row
invariant-loop-row l = record {
  are : AreRowChunks l.plan l.rows.objects l.row l.chunks.items;
  room : vec_capacity l.chunks ≡ length l.rows.objects;
}
