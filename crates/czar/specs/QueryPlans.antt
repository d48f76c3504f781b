-- The plan of a query over the catalogue.
use Rattle.answer_rules.specs.declared.rewritten.Rewritten.{Rewritten}
use Rattle.query_ends.specs.declared.plan.QueryPlan.{QueryPlan}

-- the plan of a query whose rewriting into two parts is run
abbrev pub Plan : Type 0
Plan = QueryPlan Rewritten
