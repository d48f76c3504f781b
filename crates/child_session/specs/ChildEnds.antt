-- The ends of the queries of a script over a child table: an answer over the two flat tables, or the reason for which
-- there is none.
use Rattle.std.specs.Prelude.{◌≡◌, ℕ, List, Some, Ok, length}
use Rattle.std.specs.List.{AllZip}
use Rattle.sql_bound.specs.declared.query.Bound.{Bound}
use Rattle.sql_rules.specs.PrintedExprs.{Bytes}
use Rattle.sql_tree.specs.declared.query.Query.{Query}
use Rattle.answer_rules.specs.Plans.{plan_of}
use Rattle.answer_rules.specs.declared.value.Value.{Value}
use Rattle.query_ends.specs.declared.end.End.{End}
use Rattle.query_ends.specs.declared.end.End.TheVariants.{Answered, Refused, Cancelled, Spent}
use Rattle.child_rules.specs.Children.{child_answer}
use Rattle.child_bind_rules.specs.PairColumns.{schemas_of}
use Rattle.child_transcripts.specs.ChildQueries.{child_refusal, child_understood}
use Rattle.child_session.specs.ChildSurvey.{ChildSurvey}

-- A query that is answered: its tree, its answer over the two flat tables, and the size of its plan.
pub record IsChildAnswered (t : ChildSurvey) (text : Bytes) (head : Query) (answer : List (List Value)) (chunks : ℕ)
    : Type 0 where
  pub bound : Bound
  pub known : child_understood (schemas_of t.rows.names t.table.names) text ≡ Ok (record { tree = head; bound = bound })
  pub rows : answer ≡ child_answer t.rows.objects t.table.sources bound
  pub count : chunks ≡ length (plan_of t.plan t.rows.objects bound)

-- the end is the result of the query with this line; a query that was cancelled, or in whose work an allocation failed,
-- has no result
abbrev pub ChildEndShows : ChildSurvey → Bytes → End → Type 0
ChildEndShows t text (Answered head answer chunks) = IsChildAnswered t text head answer chunks
ChildEndShows t text (Refused why) = child_refusal (schemas_of t.rows.names t.table.names) text ≡ Some why
ChildEndShows t text Cancelled = Unit {0}
ChildEndShows t text Spent = Unit {0}

-- there is an end for each of the queries with these lines, in their order
abbrev pub ChildEndsShow : ChildSurvey → List Bytes → List End → Type 0
ChildEndsShow t texts ends = AllZip (ChildEndShows t) texts ends
