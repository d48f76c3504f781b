-- The first fault of a query, from one of the checks on.
use Rattle.std.specs.Prelude.{ℕ, Option}
use Rattle.std.specs.Option.{option_or}
use Rattle.sql_tree.specs.declared.name.Col.{Col}
use Rattle.sql_tree.specs.declared.query.Query.{Query}
use Rattle.bind_rules.specs.declared.fault.BindFault.{BindFault}
use Rattle.bind_rules.specs.Checks.{order_by, too_wide_by}
use Rattle.bind_rules.specs.Forms.{area_form, join_form}
use Rattle.bind_rules.specs.Names.{Known, not_grouped}

-- the first fault from the widths on
unfoldable pub from_widths : Known → (Col → ℕ) → Query → Option BindFault
from_widths known size q = option_or (too_wide_by size q) (order_by known q)

-- the first fault from the area tests on
unfoldable pub fault_after_join : Known → (Col → ℕ) → Query → Option BindFault
fault_after_join known size q = option_or (area_form q) (from_widths known size q)

-- the first fault from the join form on
unfoldable pub from_join : Known → (Col → ℕ) → Query → Option BindFault
from_join known size q = option_or (join_form q) (fault_after_join known size q)

-- the first fault from the grouping on
unfoldable pub from_grouping : Known → (Col → ℕ) → Query → Option BindFault
from_grouping known size q = option_or (not_grouped q) (from_join known size q)
