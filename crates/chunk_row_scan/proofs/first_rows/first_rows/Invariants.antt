use Rattle.std.proofs.Common.{◌-◌, ◌≤◌, length, take}
use Rattle.sky_row.specs.Columns.{objects_at}
use Rattle.chunk_row_scan.specs.Cutoffs.{IsCutoff}
use Rattle.chunk_row_scan.specs.Lines.{IsOfRowsOver}
use Rattle.chunk_row_scan.proofs.first_rows.first_rows.Given as goal

abbrev pub invariant-loop-i : goal.invariant-loop-i
invariant-loop-i l = record {
  inside : l.i ≤ length l.places;
  piece : IsOfRowsOver l.query (objects_at l.block.objects (take l.i l.places)) l.piece;
  cutoff : IsCutoff l.down l.piece l.cutoff;
}

abbrev pub decreases-loop-i : goal.decreases-loop-i
decreases-loop-i l = length l.places - l.i
