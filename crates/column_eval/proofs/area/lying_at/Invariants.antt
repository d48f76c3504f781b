use Rattle.std.proofs.Common.{◌≤◌, get_or, length, vec_capacity}
use Rattle.column_vectors.specs.Flags.{area_at}
use Rattle.column_vectors.specs.Masks.{IsMask}
use Rattle.column_eval.proofs.area.lying_at.Given as goal

abbrev pub invariant-loop-place : goal.invariant-loop-place
invariant-loop-place l = record {
  mask : IsMask l.place-index (λ k. area_at l.test l.xs l.ys l.zs (get_or l.places k 0)) l.found.items;
  room : length l.places ≤ vec_capacity l.found;
}
