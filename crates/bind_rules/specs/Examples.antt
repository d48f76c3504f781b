-- Texts of worked examples, and their faults over a schema of two extra columns.
use Rattle.std.specs.Prelude.{ℕ, List, [], ◌∷◌, Option, None, Some, Result, Ok, Err, codes}
use Rattle.sql_token.specs.declared.token.Span.{Span}
use Rattle.sql_tree.specs.declared.query.Query.{Query}
use Rattle.sql_rules.specs.declared.fault.SqlFault.{SqlFault}
use Rattle.bind_rules.specs.declared.fault.BindFault.{BindFault}
use Rattle.sql_rules.specs.Trees.{tree_of}
use Rattle.bind_rules.specs.Checks.{bind_fault}

-- the extra columns
abbrev pub two_columns : List (List ℕ)
two_columns = codes "flux" ∷ codes "g" ∷ []

-- the bytes between two positions
abbrev pub span : (from to : ℕ) → Span
span from to = record { from = from; to = to }

-- The result of the checks of a text over the schema.
pub data Judged : Type 0 where
  NoQuery : Judged
  Refused : BindFault → Judged
  Binds : Judged

-- the result for a fault, or for none
abbrev pub by_fault : Option BindFault → Judged
by_fault None = Binds
by_fault (Some f) = Refused f

-- the result for a query, or for none
abbrev pub by_tree : Result Query SqlFault → Judged
by_tree (Ok q) = by_fault (bind_fault two_columns q)
by_tree (Err f) = NoQuery

-- the result of the text
abbrev pub judged : List ℕ → Judged
judged text = by_tree (tree_of text)
