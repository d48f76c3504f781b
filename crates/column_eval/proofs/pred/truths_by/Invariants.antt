use Rattle.std.proofs.Common.{◌≤◌, get_or, length, pos, vec_capacity}
use Rattle.value_rules.specs.Truth.{compares}
use Rattle.column_vectors.specs.Masks.{IsMask}
use Rattle.column_eval.proofs.pred.truths_by.Given as goal

abbrev pub invariant-loop-i : goal.invariant-loop-i
invariant-loop-i l = record {
  mask : IsMask l.i (λ k. compares l.op (get_or l.left k (pos 0)) (get_or l.right k (pos 0))) l.found.items;
  room : length l.left ≤ vec_capacity l.found;
}
