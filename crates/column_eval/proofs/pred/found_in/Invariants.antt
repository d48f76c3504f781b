use Rattle.std.proofs.Common.{◌≤◌, get_or, length, pos, vec_capacity}
use Rattle.value_rules.specs.Truth.{is_one_of}
use Rattle.column_vectors.specs.Lanes.{numbers_of}
use Rattle.column_vectors.specs.Masks.{IsMask}
use Rattle.column_eval.proofs.pred.found_in.Given as goal

abbrev pub invariant-loop-i : goal.invariant-loop-i
invariant-loop-i l = record {
  mask : IsMask l.i (λ k. is_one_of l.list (get_or (numbers_of l.numbers) k (pos 0))) l.found.items;
  room : length (numbers_of l.numbers) ≤ vec_capacity l.found;
}
