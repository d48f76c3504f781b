use Rattle.std.proofs.Common.{codes}
use Rattle.sky_io.proofs.Writes.{Under}
use Rattle.sql_rules.specs.PrintedExprs.{behind_each}
use Rattle.column_text.specs.Parted.{columns_from}
use Rattle.column_text.proofs.columns.put_columns_from.Given as goal

abbrev pub invariant-loop-col : goal.invariant-loop-col
invariant-loop-col g l = record {
  under : Under (g.K.Sink.state l.fn.sink) (g.K.Sink.state l.sink)
      (behind_each (codes ",") (columns_from l.side l.dot l.schema l.col))
      (behind_each (codes ",") (columns_from l.side l.dot l.schema l.fn.from));
}
