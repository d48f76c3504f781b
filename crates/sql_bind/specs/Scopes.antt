-- The scope of the names of a query over the object table.
use Rattle.std.specs.Prelude.{ℕ, List}
use Rattle.sql_tree.specs.declared.query.Query.{Query}
use Rattle.bind_rules.specs.Bounds.{Scope}

-- the scope of a query
abbrev pub scope_of : List (List ℕ) → Query → Scope
scope_of names q = record { names = names; second = q.second }
