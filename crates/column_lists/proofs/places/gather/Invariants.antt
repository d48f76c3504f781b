use Rattle.std.proofs.Common.{◌≡◌, ◌<◌, ◌≤◌, ℕ, length, get_or, vec_capacity}
use Rattle.column_lists.specs.Columns.{GathersUpTo}
use Rattle.column_lists.proofs.places.gather.Given as goal

abbrev pub invariant-loop-place : goal.invariant-loop-place
invariant-loop-place g l = record {
  count : length l.found.items ≡ l.place-index;
  room : vec_capacity l.found ≡ length l.places;
  each : GathersUpTo l.place-index l.values l.places l.found.items;
}
