use Rattle.std.proofs.Common.{◌≡◌, ◌<◌, ◌≤◌, ℕ, length, get_or, vec_capacity}
use Rattle.column_lists.specs.Columns.{GathersUpTo}
use Rattle.column_lists.proofs.places.fill.Given as goal

abbrev pub invariant-loop-k : goal.invariant-loop-k
invariant-loop-k g l = record {
  count : length l.found.items ≡ l.k;
  room : l.fn.count ≤ vec_capacity l.found;
  each : GathersUpTo l.k l.values l.places l.found.items;
}
