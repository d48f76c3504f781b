use Rattle.std.proofs.Common.{◌≡◌, Some, map}
use Rattle.column_vectors.specs.Aggregates.{joined_from, numbers_between}
use Rattle.column_vectors.specs.PickedColumns.{numbers_at}
use Rattle.column_vectors.proofs.picked_column.joined_at.Given as goal

abbrev pub invariant-loop-i : goal.invariant-loop-i
invariant-loop-i g l = l.total ≡ joined_from g.J.Join.joins l.fn.first (numbers_between (map Some (numbers_at l.values l.places)) l.fn.from l.i)
