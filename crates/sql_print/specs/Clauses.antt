-- The printed text of a query from one of its clauses on.
use Rattle.std.specs.Prelude.{◌++◌, codes}
use Rattle.sql_tree.specs.declared.query.Query.{Query}
use Rattle.sql_rules.specs.PrintedExprs.{Bytes}
use Rattle.sql_rules.specs.Printed.{print_items, print_table, print_second, print_where, print_group, print_order}
use Rattle.sql_rules.specs.Printed.{print_limit}

-- the printed text from ORDER BY on
unfoldable pub from_order : Query → Bytes
from_order q = print_order q.order ++ print_limit q.limit

-- the printed text from GROUP BY on
unfoldable pub from_group : Query → Bytes
from_group q = print_group q.group ++ from_order q

-- the printed text from WHERE on
unfoldable pub from_where : Query → Bytes
from_where q = print_where q.cond ++ from_group q

-- the printed text from the second table on
unfoldable pub from_second : Query → Bytes
from_second q = print_second q.second ++ from_where q

-- the printed text from the first table on
unfoldable pub from_first : Query → Bytes
from_first q = print_table q.first ++ from_second q

-- the printed text after SELECT
unfoldable pub from_items : Query → Bytes
from_items q = print_items q.items ++ (codes " FROM " ++ from_first q)
