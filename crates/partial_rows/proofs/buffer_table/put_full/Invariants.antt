use Rattle.std.proofs.Common.{◌≡◌, ◌++◌, ◌+◌, ◌≤◌, length, map, take, vec_len, vec_capacity}
use Rattle.partial_rows.specs.CompactRows.{full}
use Rattle.partial_rows.proofs.buffer_table.put_full.Given as goal

abbrev pub invariant-loop-row : goal.invariant-loop-row
invariant-loop-row l = record {
  items : l.rows.items ≡ l.initial.rows.items ++ map (full l.width) (take l.row-index l.compact);
  room : vec_len l.rows + length l.compact ≤ vec_capacity l.rows + l.row-index;
}
