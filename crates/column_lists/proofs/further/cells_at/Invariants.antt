use Rattle.std.proofs.Common.{◌≡◌, ◌<◌, ◌≤◌, ◌++◌, drop, length}
use Rattle.std.specs.Prelude.{All, IsTrue}
use Rattle.std.specs.List.{list_all}
use Rattle.table_rules.specs.Objects.{is_further}
use Rattle.column_lists.specs.Columns.{cells_in}
use Rattle.column_lists.proofs.further.cells_at.Given as goal

abbrev pub invariant-loop-column : goal.invariant-loop-column
invariant-loop-column l = record {
  taken : l.cells ++ cells_in (drop l.column-index l.fn.columns) l.i ≡ cells_in l.fn.columns l.i;
  count : length l.cells ≡ l.column-index;
}
