use Rattle.std.proofs.Common.{◌≤◌, length, max}
use Rattle.id_order.specs.Keys.{IsLeast}
use Rattle.id_order.proofs.repeats.least_second.Given as goal

abbrev pub invariant-loop-i : goal.invariant-loop-i
invariant-loop-i l = record {
  least : IsLeast l.keys l.i l.least;
  within : l.i ≤ max 1 (length l.keys);
}
