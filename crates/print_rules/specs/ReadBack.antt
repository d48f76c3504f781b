-- The printed text of a query is read as that query.
use Rattle.std.specs.Prelude.{◌≡◌, ℕ, List, Ok}
use Rattle.sql_tree.specs.Bare.{bare}
use Rattle.sql_tree.specs.declared.query.Query.{Query}
use Rattle.sql_rules.specs.Printed.{printed}
use Rattle.sql_rules.specs.Trees.{tree_of}

-- the printed text of a query that is read from a text is read as the same query, up to spans and the sign of a zero in
-- a list of integers
abbrev pub APrintedQueryReadsBack : Type 0
APrintedQueryReadsBack =
    (text : List ℕ) (q : Query) → tree_of text ≡ Ok q
    → (r : Query) × (tree_of (printed q) ≡ Ok r) × (bare r ≡ bare q)
