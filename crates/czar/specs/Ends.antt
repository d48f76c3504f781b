-- The ends of the queries of a script: an answer over the flat table, or the reason for which there is none.
use Rattle.std.specs.Prelude.{◌≡◌, ℕ, List, None, Some, Ok, length}
use Rattle.std.specs.List.{AllZip}
use Rattle.table_rules.specs.Objects.{Catalogue}
use Rattle.sky_rules.specs.Partition.{Partition}
use Rattle.sql_rules.specs.PrintedExprs.{Bytes}
use Rattle.sql_tree.specs.declared.query.Query.{Query}
use Rattle.answer_rules.specs.Answers.{flat_answer}
use Rattle.answer_rules.specs.Plans.{plan_of}
use Rattle.answer_rules.specs.declared.value.Value.{Value}
use Rattle.transcript_rules.specs.Refusals.{Understood, understood, early_refusal, refusal_of}
use Rattle.query_ends.specs.declared.end.End.{End}
use Rattle.query_ends.specs.declared.end.End.TheVariants.{Answered, Refused, Cancelled, Spent}

-- A query that is answered: its tree, its answer over the flat table, and the size of its plan.
pub record IsAnswered (g : Partition) (c : Catalogue) (text : Bytes) (head : Query) (table : List (List Value)) (chunks : ℕ)
    : Type 0 where
  pub understanding : Understood
  pub known : understood c.names text ≡ Ok understanding
  pub tree : head ≡ understanding.tree
  pub answer : flat_answer c.objects understanding.bound ≡ Ok table
  pub count : chunks ≡ length (plan_of g c.objects understanding.bound)
  pub accepted : early_refusal g c text ≡ None

-- the end is the result of the query with this line; a query that was cancelled, or in whose work an allocation failed,
-- has no result
abbrev pub EndShows : Partition → Catalogue → Bytes → End → Type 0
EndShows g c text (Answered head table chunks) = IsAnswered g c text head table chunks
EndShows g c text (Refused why) = refusal_of g c text ≡ Some why
EndShows g c text Cancelled = Unit {0}
EndShows g c text Spent = Unit {0}

-- there is an end for each of the queries with these lines, in their order
abbrev pub EndsShow : Partition → Catalogue → List Bytes → List End → Type 0
EndsShow g c texts ends = AllZip (EndShows g c) texts ends
