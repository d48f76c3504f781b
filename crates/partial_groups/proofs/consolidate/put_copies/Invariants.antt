use Rattle.std.proofs.Common.{◌≡◌, ◌++◌, ◌+◌, slice_range, take, vec_len, vec_capacity}
use Rattle.partial_groups.proofs.consolidate.put_copies.Given as goal

abbrev pub invariant-loop-i : goal.invariant-loop-i
invariant-loop-i l = record {
  items : l.fresh.items ≡ l.initial.fresh.items ++ take l.i (slice_range l.tallies.items l.from (l.from + l.width));
  long : vec_len l.fresh ≡ vec_len l.initial.fresh + l.i;
  capacity : vec_capacity l.fresh ≡ vec_capacity l.initial.fresh;
}
