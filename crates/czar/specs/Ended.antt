-- The end of a query over the catalogue, by its plan and by how it ended at the board.
use Rattle.std.specs.Prelude.{◌≡◌, ℕ, List, Ok, Err}
use Rattle.sql_tree.specs.declared.query.Query.{Query}
use Rattle.answer_rules.specs.Answers.{Answer}
use Rattle.answer_rules.specs.Finish.{finished}
use Rattle.answer_rules.specs.Pieces.{PieceView}
use Rattle.answer_rules.specs.declared.rewritten.Rewritten.{Rewritten}
use Rattle.partial_merge.specs.Joining.{MayFinish}
use Rattle.transcript_rules.specs.declared.refusal.Refusal.TheVariants as refusal
use Rattle.scan_session.specs.declared.end.End.{End as BoardEnd}
use Rattle.query_ends.specs.Ended.{AreEnded as AreEndedBy}
use Rattle.query_ends.specs.declared.end.End.{End}
use Rattle.query_ends.specs.declared.end.End.TheVariants.{Answered, Refused}
use Rattle.czar.specs.QueryPlans.{Plan}

-- the answer of a query over the given number of chunks, or its refusal for a total out of range
abbrev pub answer_end : Query → ℕ → Answer → End
answer_end head chunks (Ok table) = Answered head table chunks
answer_end head chunks (Err total) = Refused (refusal.Total (record { total = total }))

-- the end of a query with this tree and this rewriting over the given number of chunks, by the piece over all of them
abbrev pub IsAnsweredBy : Query → Rewritten → ℕ → PieceView → End → Type 0
IsAnsweredBy head query chunks piece end = end ≡ answer_end head chunks (finished query.merge piece)

-- the piece may be finished by the query's merge
abbrev pub MayAnswerBy : Rewritten → PieceView → Type 0
MayAnswerBy query piece = MayFinish query.merge piece

-- there is an end for each of the queries with these plans, in their order
abbrev pub AreEnded : List Plan → List (BoardEnd PieceView) → List End → Type 0
AreEnded = AreEndedBy IsAnsweredBy
