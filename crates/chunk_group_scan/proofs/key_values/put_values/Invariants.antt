use Rattle.std.proofs.Common.{◌≡◌, ◌+◌, ◌≤◌, Some, drop, length, map, take, vec_capacity, vec_len}
use Rattle.sky_row.specs.Columns.{objects_at}
use Rattle.value_rules.specs.Values.{cell_of, row}
use Rattle.chunk_group_scan.proofs.key_values.put_values.Given as goal

abbrev pub invariant-loop-place : goal.invariant-loop-place
invariant-loop-place l = record {
  put : map Some l.values.items ≡ map (λ o. cell_of (row o) l.key) (objects_at l.block.objects (take l.place-index l.places));
  room : vec_len l.values + length (drop l.place-index l.places) ≤ vec_capacity l.values;
}
