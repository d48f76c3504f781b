use Rattle.std.proofs.Common.{◌≡◌, ◌++◌, drop}
use Rattle.column_lists.proofs.cells.Cells.from_slice.Given as goal

abbrev pub invariant-loop-value : goal.invariant-loop-value
invariant-loop-value l = l.cells ++ drop l.value-index l.values ≡ l.fn.values
