use Rattle.std.proofs.Common.{◌≡◌, drop}
use Rattle.sql_tree.specs.Spans.{col_span}
use Rattle.query_walks.specs.Firsts.{first_place}
use Rattle.query_walks.proofs.column_search.first_of_columns.Given as goal

abbrev pub invariant-loop-col : goal.invariant-loop-col
invariant-loop-col g l = record {
  ahead : first_place col_span (g.T.ColumnTest.passes l.test) l.cols
      ≡ first_place col_span (g.T.ColumnTest.passes l.test) (drop l.col-index l.cols);
}
