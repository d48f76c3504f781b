use Rattle.std.proofs.Common.{◌≡◌, length, take}
use Rattle.partial_groups.proofs.grouped_rows.are_same.Given as goal

abbrev pub invariant-loop-i : goal.invariant-loop-i
invariant-loop-i l = record {
  long : length l.a ≡ length l.b;
  same : take l.i l.a ≡ take l.i l.b;
}
