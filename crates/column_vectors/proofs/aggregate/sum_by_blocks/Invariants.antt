use Rattle.std.proofs.Common.{◌≡◌, ◌≤◌, ◌-◌}
use Rattle.column_vectors.specs.Aggregates.{numbers_between, sum_of}
use Rattle.column_vectors.specs.Lanes.{values_in}
use Rattle.column_vectors.proofs.aggregate.sum_by_blocks.Given as goal

abbrev pub invariant-loop-at : goal.invariant-loop-at
invariant-loop-at l = record {
  low : l.from ≤ l.at;
  high : l.at ≤ l.to;
  total : l.total ≡ sum_of (numbers_between (values_in l.numbers l.known) l.from l.at);
}

abbrev pub decreases-loop-at : goal.decreases-loop-at
decreases-loop-at l = l.to - l.at
