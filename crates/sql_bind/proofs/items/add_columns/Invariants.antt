use Rattle.std.proofs.Common.{◌≡◌, ◌++◌, drop}
use Rattle.bind_rules.specs.Binding.{columns_from}
use Rattle.table_rules.specs.Names.{column_names}
use Rattle.sql_bind.proofs.items.add_columns.Given as goal

abbrev pub invariant-loop-col : goal.invariant-loop-col
invariant-loop-col l =
    l.fn.found ++ columns_from l.second 0 (column_names l.fn.schema)
    ≡ l.found ++ columns_from l.second l.col (drop l.col (column_names l.fn.schema))
