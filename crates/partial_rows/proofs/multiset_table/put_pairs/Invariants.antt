use Rattle.std.proofs.Common.{◌≡◌, ◌++◌, length, map, take, None, IsPermutation}
use Rattle.partial_rows.specs.Multisets.{IsRowBuffer, pushed_in, rows_in}
use Rattle.partial_rows.specs.Pairs.{pair_row}
use Rattle.partial_rows.proofs.multiset_table.put_pairs.Given as goal

abbrev pub invariant-loop-pair : goal.invariant-loop-pair
invariant-loop-pair l = record {
  mine : IsRowBuffer (length l.cells.items) l.buffer;
  all : pushed_in l.buffer ≡ None;
  put : IsPermutation (rows_in l.fn.cells.items l.fn.buffer ++ map pair_row (take l.pair-index l.pairs)) (rows_in l.cells.items l.buffer);
}
