use Rattle.std.proofs.Common.{◌≡◌, ℤ, List, []}
use Rattle.column_vectors.specs.Aggregates.{numbers_between}
use Rattle.column_vectors.specs.Lanes.{values_in}
use Rattle.column_vectors.proofs.least_greatest.first_known.Given as goal

abbrev pub invariant-loop-i : goal.invariant-loop-i
invariant-loop-i l = (numbers : List ℤ) → numbers_between (values_in numbers l.known) l.fn.from l.i ≡ []
