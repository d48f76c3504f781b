use Rattle.std.proofs.Common.{◌≡◌, take}
use Rattle.column_lists.specs.Columns.{cells_in}
use Rattle.chunk_row_scan.proofs.columns.fill_at.Given as goal

abbrev pub invariant-loop-column : goal.invariant-loop-column
invariant-loop-column l = l.values.items ≡ cells_in (take l.column-index l.columns) l.i
