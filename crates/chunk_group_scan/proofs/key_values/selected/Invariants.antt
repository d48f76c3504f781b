use Rattle.std.proofs.Common.{◌≡◌, ◌+◌, ◌≤◌, drop, length, take, vec_capacity, vec_len}
use Rattle.column_vectors.specs.PickedColumns.{numbers_at}
use Rattle.chunk_group_scan.proofs.key_values.selected.Given as goal

abbrev pub invariant-loop-place : goal.invariant-loop-place
invariant-loop-place l = record {
  put : l.values.items ≡ numbers_at l.numbers (take l.place-index l.places);
  room : vec_len l.values + length (drop l.place-index l.places) ≤ vec_capacity l.values;
}
