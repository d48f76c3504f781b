-- The plans of the queries of a script: for each its chunk query, its merge and its chunks, or the reason for which it
-- is refused.
use Rattle.std.specs.Prelude.{◌≡◌, ℕ, List, None, Some, Ok}
use Rattle.std.specs.List.{AllZip}
use Rattle.table_rules.specs.Objects.{Catalogue}
use Rattle.sky_rules.specs.Partition.{Partition}
use Rattle.sql_rules.specs.PrintedExprs.{Bytes}
use Rattle.sql_tree.specs.declared.query.Query.{Query}
use Rattle.sql_bound.specs.declared.query.Bound.{Bound}
use Rattle.answer_rules.specs.Plans.{plan_of}
use Rattle.answer_rules.specs.Rewriting.{rewritten}
use Rattle.answer_rules.specs.declared.rewritten.Rewritten.{Rewritten}
use Rattle.transcript_rules.specs.Refusals.{Understood, understood, early_refusal}
use Rattle.czar.specs.Understandings.{IsUnderstanding}
use Rattle.czar.specs.declared.understanding.Understanding.{Understanding}
use Rattle.query_ends.specs.declared.plan.QueryPlan.TheVariants.{Planned, Refused}
use Rattle.czar.specs.QueryPlans.{Plan}

-- A query that can be run: its tree, its rewriting into two parts, and the chunks that it needs.
pub record IsPlanned (g : Partition) (c : Catalogue) (text : Bytes) (head : Query) (query : Rewritten) (chunks : List ℕ)
    : Type 0 where
  pub understanding : Understood
  pub known : understood c.names text ≡ Ok understanding
  pub tree : head ≡ understanding.tree
  pub cut : query ≡ rewritten understanding.bound
  pub plan : chunks ≡ plan_of g c.objects understanding.bound
  pub accepted : early_refusal g c text ≡ None

-- the plan of the query with this line, or the reason for which it is refused before it is run
abbrev pub PlanFor : Partition → Catalogue → Bytes → Plan → Type 0
PlanFor g c text (Planned head query chunks) = IsPlanned g c text head query chunks
PlanFor g c text (Refused why) = early_refusal g c text ≡ Some why

-- the plan of each line whose understanding is this tree and this bound query
abbrev pub IsPlanOf : Partition → Catalogue → Query → Bound → Plan → Type 0
IsPlanOf g c tree bound plan =
    (text : Bytes) → understood c.names text ≡ Ok (record { tree = tree; bound = bound }) → PlanFor g c text plan

-- the plan of each line with this understanding
abbrev pub IsPlanBy : Partition → Catalogue → Understanding → Plan → Type 0
IsPlanBy g c it plan = (text : Bytes) → IsUnderstanding c.names text it → PlanFor g c text plan

-- the plan of a query with this tree and this bound query, rewritten over these chunks
abbrev pub IsCutOf : Query → Bound → List ℕ → Plan → Type 0
IsCutOf tree bound chunks plan = plan ≡ Planned tree (rewritten bound) chunks

-- there is a plan for each of the queries with these lines, in their order
abbrev pub ArePlans : Partition → Catalogue → List Bytes → List Plan → Type 0
ArePlans g c texts plans = AllZip (PlanFor g c) texts plans
