use Rattle.std.proofs.Common.{◌≤◌, get_or, length, pos, vec_capacity}
use Rattle.value_rules.specs.Truth.{compares}
use Rattle.column_vectors.specs.Lanes.{numbers_of}
use Rattle.column_vectors.specs.Masks.{IsMask}
use Rattle.column_eval.proofs.pred.truths_of_wide.Given as goal

abbrev pub invariant-loop-i : goal.invariant-loop-i
invariant-loop-i l = record {
  mask : IsMask l.i (λ k. compares l.op (get_or (numbers_of l.left) k (pos 0)) (get_or (numbers_of l.right) k (pos 0))) l.found.items;
  room : length (numbers_of l.left) ≤ vec_capacity l.found;
}
