use Rattle.std.proofs.Common.{◌≡◌, ◌≤◌, length, vec_capacity}
use Rattle.column_lists.specs.Columns.{GathersUpTo}
use Rattle.column_vectors.proofs.leaf.gathered.Given as goal

abbrev pub invariant-loop-place : goal.invariant-loop-place
invariant-loop-place g l = record {
  count : length l.found.items ≡ l.place-index;
  room : length l.places ≤ vec_capacity l.found;
  each : GathersUpTo l.place-index l.values l.places l.found.items;
}
