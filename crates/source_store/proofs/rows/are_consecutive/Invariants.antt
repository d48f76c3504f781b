use Rattle.source_store.specs.RowChunks.{AreConsecutive}
use Rattle.source_store.proofs.rows.are_consecutive.Given as goal

abbrev pub invariant-loop-row : goal.invariant-loop-row
invariant-loop-row l = AreConsecutive l.rows.objects l.row l.fn.first
