use Rattle.std.proofs.Common.{◌≡◌, ◌≤◌, ◌-◌, Some, map}
use Rattle.column_vectors.specs.Aggregates.{numbers_between, sum_of}
use Rattle.column_vectors.specs.PickedColumns.{numbers_at}
use Rattle.column_vectors.proofs.picked_column.sum_at.Given as goal

abbrev pub invariant-loop-at : goal.invariant-loop-at
invariant-loop-at l = record {
  low : l.from ≤ l.at;
  high : l.at ≤ l.to;
  total : l.total ≡ sum_of (numbers_between (map Some (numbers_at l.values l.places)) l.from l.at);
}

abbrev pub decreases-loop-at : goal.decreases-loop-at
decreases-loop-at l = l.to - l.at
