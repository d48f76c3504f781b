use Rattle.std.proofs.Common.{◌≡◌, ◌+◌, ◌*◌, ◌≤◌, drop, length, take, vec_len, vec_capacity}
use Rattle.partial_groups.specs.Adding.{width_in}
use Rattle.partial_groups.proofs.Gaining.{Midway}
use Rattle.partial_groups.proofs.combine.combine_all.Given as goal

abbrev pub invariant-loop-i : goal.invariant-loop-i
invariant-loop-i l = record {
  midway : Midway l.fn.tallies.items l.fn.groups.items l.more.items (take l.i l.fn.others.items) l.tallies.items l.groups.items;
  long : length l.others.items ≡ length l.fn.others.items;
  rest : drop l.i l.others.items ≡ drop l.i l.fn.others.items;
  room : vec_len l.groups + length (drop l.i l.fn.others.items) ≤ vec_capacity l.groups;
  space : vec_len l.tallies + length (drop l.i l.fn.others.items) * width_in l.fn.others.items ≤ vec_capacity l.tallies;
}
