use Rattle.std.proofs.Common.{◌≡◌, vec_len, vec_capacity}
use Rattle.partial_groups.proofs.Owning.{Summed}
use Rattle.partial_groups.proofs.combine.add_parts.Given as goal

abbrev pub invariant-loop-i : goal.invariant-loop-i
invariant-loop-i l = record {
  summed : Summed l.more.items l.initial.tallies.items l.tallies.items l.a l.b l.i;
  long : vec_len l.tallies ≡ vec_len l.initial.tallies;
  capacity : vec_capacity l.tallies ≡ vec_capacity l.initial.tallies;
}
