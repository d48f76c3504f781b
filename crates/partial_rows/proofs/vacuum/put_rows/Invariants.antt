use Rattle.std.proofs.Common.{◌≡◌, ◌++◌, All, length, map, take}
use Rattle.partial_rows.specs.Rows.{IsIn, row_of}
use Rattle.partial_rows.proofs.vacuum.put_rows.Given as goal

abbrev pub invariant-loop-other : goal.invariant-loop-other
invariant-loop-other l = record {
  same : map (row_of l.live.items) l.rows.items ≡ map (row_of l.fn.live.items) l.fn.rows.items ++ map (row_of l.cells) (take l.other-index l.others);
  mine : All (IsIn (length l.live.items)) l.rows.items;
}
