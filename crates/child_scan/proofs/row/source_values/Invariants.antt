use Rattle.source_row.specs.SourceColumns.{source_at}
use Rattle.child_scan.proofs.Filling.{AreFirst}
use Rattle.child_scan.proofs.row.source_values.Given as goal

abbrev pub invariant-loop-k : goal.invariant-loop-k
invariant-loop-k l = AreFirst l.k (source_at l.lists l.i).further l.further
