use Rattle.std.proofs.Common.{◌≡◌, ◌≤◌, replicate, vec_capacity}
use Rattle.column_vectors.proofs.leaf.repeated.Given as goal

abbrev pub invariant-loop-turn : goal.invariant-loop-turn
invariant-loop-turn g l = record {
  items : l.found.items ≡ replicate l.turn l.item;
  room : l.count ≤ vec_capacity l.found;
}
