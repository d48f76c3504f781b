-- The understanding of a query over a child table, and its refusal.
use Rattle.std.specs.Prelude.{Option, Result}
use Rattle.std.specs.Result.{result_err}
use Rattle.sql_rules.specs.PrintedExprs.{Bytes}
use Rattle.sql_rules.specs.Trees.{tree_of}
use Rattle.transcript_rules.specs.declared.refusal.Refusal.{Refusal}
use Rattle.transcript_rules.specs.Refusals.{Understood, with_tree_by}
use Rattle.child_bind_rules.specs.ChildBinding.{child_bound_of}
use Rattle.child_bind_rules.specs.PairColumns.{Schemas}

-- the tree and the bound query of a query's line over both tables, or why there are none
unfoldable pub child_understood : Schemas → Bytes → Result Understood Refusal
child_understood schemas text = with_tree_by (child_bound_of schemas) (tree_of text)

-- the refusal of a query: for its grammar, or for the first fault of its binding over both tables; a child query has no
-- radius and no total, so one that binds has an answer
unfoldable pub child_refusal : Schemas → Bytes → Option Refusal
child_refusal schemas text = result_err (child_understood schemas text)
