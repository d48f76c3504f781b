use Rattle.std.proofs.Common.{◌≡◌}
use Rattle.column_vectors.specs.Aggregates.{joined_from, numbers_between}
use Rattle.column_vectors.specs.Lanes.{values_in}
use Rattle.column_vectors.proofs.least_greatest.whole_from.Given as goal

abbrev pub invariant-loop-i : goal.invariant-loop-i
invariant-loop-i g l = l.total ≡ joined_from g.J.Join.joins l.fn.first (numbers_between (values_in l.numbers l.known) l.fn.from l.i)
