-- The plans of the child queries of a script: for each its bound query and its chunks, or the reason for which it is
-- refused.
use Rattle.std.specs.Prelude.{◌≡◌, ℕ, List, Some, Ok}
use Rattle.std.specs.List.{AllZip}
use Rattle.sql_bound.specs.declared.query.Bound.{Bound}
use Rattle.sql_rules.specs.PrintedExprs.{Bytes}
use Rattle.sql_rules.specs.Trees.{tree_of}
use Rattle.sql_tree.specs.declared.query.Query.{Query}
use Rattle.answer_rules.specs.Plans.{plan_of}
use Rattle.child_rules.specs.declared.bound.ChildBound.{ChildBound}
use Rattle.child_bind_rules.specs.PairColumns.{schemas_of}
use Rattle.child_transcripts.specs.ChildQueries.{child_refusal, child_understood}
use Rattle.child_session.specs.ChildSurvey.{ChildSurvey}
use Rattle.child_session.specs.declared.plan.ChildPlan.{ChildPlan}
use Rattle.child_session.specs.declared.plan.ChildPlan.TheVariants.{Planned, Refused}

-- A query that can be run: its tree, its bound query, and the chunks that it needs.
pub record IsChildPlanned (t : ChildSurvey) (text : Bytes) (head : Query) (bound : Bound) (chunks : List ℕ) : Type 0 where
  pub known : child_understood (schemas_of t.rows.names t.table.names) text ≡ Ok (record { tree = head; bound = bound })
  pub plan : chunks ≡ plan_of t.plan t.rows.objects bound

-- the plan of the query with this line, or the reason for which it is refused
abbrev pub ChildPlanFor : ChildSurvey → Bytes → ChildPlan → Type 0
ChildPlanFor t text (Planned head query chunks) = IsChildPlanned t text head query.bound chunks
ChildPlanFor t text (Refused why) = child_refusal (schemas_of t.rows.names t.table.names) text ≡ Some why

-- there is a plan for each of the queries with these lines, in their order
abbrev pub AreChildPlans : ChildSurvey → List Bytes → List ChildPlan → Type 0
AreChildPlans t texts plans = AllZip (ChildPlanFor t) texts plans

-- the plan of each line that has this tree
abbrev pub IsChildPlanOf : ChildSurvey → Query → ChildPlan → Type 0
IsChildPlanOf t tree plan = (text : Bytes) → tree_of text ≡ Ok tree → ChildPlanFor t text plan

-- the plan of a query with this tree and this bound query
abbrev pub IsChildPlanBy : ChildSurvey → Query → ChildBound → ChildPlan → Type 0
IsChildPlanBy t tree query plan = plan ≡ Planned tree query (plan_of t.plan t.rows.objects query.bound)
