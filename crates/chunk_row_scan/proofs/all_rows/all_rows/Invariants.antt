use Rattle.std.proofs.Common.{take}
use Rattle.sky_row.specs.Columns.{objects_at}
use Rattle.chunk_row_scan.specs.Lines.{IsOfRowsOver}
use Rattle.chunk_row_scan.proofs.all_rows.all_rows.Given as goal

abbrev pub invariant-loop-i : goal.invariant-loop-i
invariant-loop-i l = IsOfRowsOver l.query (objects_at l.block.objects (take l.i l.places)) l.piece
