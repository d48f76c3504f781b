use Rattle.std.proofs.Common.{◌≡◌, length, map, take}
use Rattle.partial_rows.specs.PackedKeys.{row_in}
use Rattle.partial_rows.proofs.row_keys.put_rows.Given as goal

abbrev pub invariant-loop-j : goal.invariant-loop-j
invariant-loop-j l = record {
  long : length l.rows ≡ length l.keys;
  read : take l.j l.rows ≡ map row_in (take l.j l.keys);
}
