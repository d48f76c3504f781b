use Rattle.std.proofs.Common.{◌≡◌, ◌+◌, ◌≤◌, drop}
use Rattle.partial_groups.specs.Pruning.{group_count, counts_before}
use Rattle.partial_groups.proofs.cutoff.groups_before.Given as goal

abbrev pub invariant-loop-i : goal.invariant-loop-i
invariant-loop-i l = record {
  few : l.groups ≤ l.i;
  rest : l.groups + group_count (counts_before l.cutoff l.i (drop l.i l.counts)) ≡ group_count (counts_before l.cutoff 0 l.counts);
}
