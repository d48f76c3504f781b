use Rattle.std.proofs.Common.{◌≡◌, map, drop}
use Rattle.sql_tree.specs.Spans.{col_span}
use Rattle.text_rules.specs.Readings.{joined}
use Rattle.query_walks.specs.Firsts.{factor_columns, first_place, signed_columns}
use Rattle.query_walks.proofs.column_search.+first.Given as goal

abbrev pub invariant-first_in_factors-loop-factor : goal.invariant-first_in_factors-loop-factor
invariant-first_in_factors-loop-factor g l = record {
  ahead : first_place col_span (g.T.ColumnTest.passes l.test) (joined (map factor_columns l.rest))
      ≡ first_place col_span (g.T.ColumnTest.passes l.test) (joined (map factor_columns (drop l.factor-index l.rest)));
}

abbrev pub invariant-first_in_signeds-loop-signed : goal.invariant-first_in_signeds-loop-signed
invariant-first_in_signeds-loop-signed g l = record {
  ahead : first_place col_span (g.T.ColumnTest.passes l.test) (joined (map signed_columns l.rest))
      ≡ first_place col_span (g.T.ColumnTest.passes l.test) (joined (map signed_columns (drop l.signed-index l.rest)));
}
