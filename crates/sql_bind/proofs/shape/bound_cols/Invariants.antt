use Rattle.std.proofs.Common.{◌≡◌, ◌++◌, map, drop}
use Rattle.sql_bind.proofs.shape.bound_cols.Given as goal

abbrev pub invariant-loop-col : goal.invariant-loop-col
invariant-loop-col g l = map (g.C.Columns.means l.columns) l.cols ≡ l.found ++ map (g.C.Columns.means l.columns) (drop l.col-index l.cols)
