use Rattle.std.proofs.Common.{◌+◌, ◌*◌, ◌≤◌, vec_len, vec_capacity}
use Rattle.partial_groups.specs.Adding.{width_in}
use Rattle.partial_groups.proofs.Consolidating.{Halfway}
use Rattle.partial_groups.proofs.consolidate.consolidate.Given as goal

abbrev pub invariant-loop-group : goal.invariant-loop-group
invariant-loop-group l = record {
  halfway : Halfway l.fn.tallies.items l.fn.groups.items l.groups.items l.fresh.items l.out.items;
  room : vec_len l.out + vec_len l.groups ≤ vec_capacity l.out;
  space : vec_len l.fresh + vec_len l.groups * width_in l.fn.groups.items ≤ vec_capacity l.fresh;
}

abbrev pub decreases-loop-group : goal.decreases-loop-group
decreases-loop-group l = vec_len l.groups
