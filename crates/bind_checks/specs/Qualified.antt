-- Which mentions have a qualifier, of all that could have one.
use Rattle.std.specs.Prelude.{Bool, true, not}
use Rattle.std.specs.List.{list_all}
use Rattle.std.specs.Option.{is_some}
use Rattle.sql_tree.specs.declared.expr.Expr.{Expr}
use Rattle.bind_rules.specs.Mentions.{Mention, Column, Table, Side, Mentions, Cols, columns_of}

-- each column has a qualifier
abbrev pub are_qualified : Cols → Bool
are_qualified = list_all (λ c. is_some c.table)

-- a column of the expression has no qualifier
abbrev pub is_bare : Expr → Bool
is_bare e = not (are_qualified (columns_of e))

-- the mention is no column, or has a qualifier
abbrev pub has_qualifier : Mention → Bool
has_qualifier (Column c) = is_some c.table
has_qualifier (Table n) = true
has_qualifier (Side n) = true

-- each column among the mentions has a qualifier
abbrev pub all_qualified : Mentions → Bool
all_qualified = list_all has_qualifier
