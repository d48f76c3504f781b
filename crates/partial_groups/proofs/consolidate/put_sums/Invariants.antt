use Rattle.std.proofs.Common.{◌≡◌, ◌++◌, ◌+◌, slice_range, take, vec_len, vec_capacity}
use Rattle.answer_rules.specs.Parts.{add_own_parts}
use Rattle.partial_groups.proofs.consolidate.put_sums.Given as goal

abbrev pub invariant-loop-i : goal.invariant-loop-i
invariant-loop-i l = record {
  items : l.fresh.items ≡ l.initial.fresh.items ++ take l.i (add_own_parts (slice_range l.tallies.items l.a (l.a + l.width)) (slice_range l.initial.fresh.items l.b (l.b + l.width)));
  long : vec_len l.fresh ≡ vec_len l.initial.fresh + l.i;
  capacity : vec_capacity l.fresh ≡ vec_capacity l.initial.fresh;
}
