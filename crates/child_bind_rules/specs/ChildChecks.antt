-- The five checks of a query over objects and their sources, in order, and its first fault.
use Rattle.std.specs.Prelude.{Option}
use Rattle.std.specs.Option.{option_or}
use Rattle.sql_tree.specs.declared.query.Query.{Query}
use Rattle.bind_rules.specs.declared.fault.BindFault.{BindFault}
use Rattle.bind_rules.specs.Checks.{order_by, too_wide_by}
use Rattle.bind_rules.specs.Forms.{area_form}
use Rattle.bind_rules.specs.Names.{unknown_by}
use Rattle.child_bind_rules.specs.JoinCondition.{child_form}
use Rattle.child_bind_rules.specs.PairColumns.{Schemas, pair_names, pair_size}

-- the first fault of a query over both tables with these extra columns: an unknown name, the form of the join, an area
-- test, an expression that may be too wide, and an order key that is no column and no alias
unfoldable pub child_fault : Schemas → Query → Option BindFault
child_fault s q =
    option_or (unknown_by (pair_names s q) q) (option_or (child_form q) (option_or (area_form q)
    (option_or (too_wide_by (pair_size s q) q) (order_by (pair_names s q) q))))
