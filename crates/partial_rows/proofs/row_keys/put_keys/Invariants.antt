use Rattle.std.proofs.Common.{◌≡◌, ◌+◌, ◌≤◌, length, map, take, vec_len, vec_capacity}
use Rattle.partial_rows.specs.PackedKeys.{row_in}
use Rattle.partial_rows.proofs.row_keys.put_keys.Given as goal

abbrev pub invariant-loop-row : goal.invariant-loop-row
invariant-loop-row l = record {
  keys : map row_in l.keys.items ≡ take l.row-index l.rows;
  room : vec_len l.keys + length l.rows ≤ vec_capacity l.keys + l.row-index;
}
