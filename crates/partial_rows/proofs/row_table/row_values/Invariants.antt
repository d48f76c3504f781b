use Rattle.std.proofs.Common.{◌≡◌, take}
use Rattle.std.specs.List.{flat_map}
use Rattle.partial_rows.specs.Rows.{row_values}
use Rattle.partial_rows.proofs.row_table.row_values.Given as goal

abbrev pub invariant-loop-row : goal.invariant-loop-row
invariant-loop-row l = l.values.items ≡ flat_map (row_values l.cells l.items) (take l.row-index l.rows)
