-- Texts of worked examples over objects with a flux and sources with a flux and a time: their faults, the columns that they
-- refer to, and their id tests.
use Rattle.std.specs.Prelude.{ℕ, ℤ, List, [], ◌∷◌, map, Option, Result, Ok, Err, codes}
use Rattle.sql_bound.specs.declared.expr.BoundCol.{BoundCol}
use Rattle.sql_tree.specs.declared.query.Query.{Query}
use Rattle.sql_rules.specs.declared.fault.SqlFault.{SqlFault}
use Rattle.sql_rules.specs.Trees.{tree_of}
use Rattle.bind_rules.specs.Columns.{tables}
use Rattle.bind_rules.specs.Examples.{Judged, NoQuery, by_fault}
use Rattle.bind_rules.specs.Mentions.{columns_in}
use Rattle.child_bind_rules.specs.ChildBinding.{child_query}
use Rattle.child_bind_rules.specs.ChildChecks.{child_fault}
use Rattle.child_bind_rules.specs.PairColumns.{Schemas, pair_column}

-- the extra columns
abbrev pub flux_and_time : Schemas
flux_and_time = record { objects = codes "flux" ∷ []; sources = codes "flux" ∷ codes "t" ∷ [] }

-- the result for a query, or for none
abbrev pub child_by_tree : Result Query SqlFault → Judged
child_by_tree (Ok q) = by_fault (child_fault flux_and_time q)
child_by_tree (Err f) = NoQuery

-- the result of the text
abbrev pub child_judged : List ℕ → Judged
child_judged text = child_by_tree (tree_of text)

-- the columns to which those of a query refer, or those of none
abbrev pub columns_of_tree : Result Query SqlFault → List (Option BoundCol)
columns_of_tree (Ok q) = map (pair_column flux_and_time (tables q)) (columns_in q)
columns_of_tree (Err f) = []

-- the columns to which those of the text refer
abbrev pub columns_meant : List ℕ → List (Option BoundCol)
columns_meant text = columns_of_tree (tree_of text)

-- the id tests of the bound query of a query, or of none
abbrev pub ids_of_tree : Result Query SqlFault → List (List ℤ)
ids_of_tree (Ok q) = (child_query flux_and_time q).ids
ids_of_tree (Err f) = []

-- the id tests of the text
abbrev pub child_ids : List ℕ → List (List ℤ)
child_ids text = ids_of_tree (tree_of text)
