use Rattle.std.proofs.Common.{◌≡◌, ◌++◌, ◌+◌, ◌≤◌, length, take, vec_len, vec_capacity}
use Rattle.partial_rows.proofs.buffer_cells.put_values.Given as goal

abbrev pub invariant-loop-value : goal.invariant-loop-value
invariant-loop-value l = record {
  items : l.cells.items ≡ l.initial.cells.items ++ take l.value-index l.values;
  room : vec_len l.cells + length l.values ≤ vec_capacity l.cells + l.value-index;
}
