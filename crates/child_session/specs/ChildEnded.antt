-- The end of a child query that is answered.
use Rattle.std.specs.Prelude.{◌≡◌, ℕ}
use Rattle.sql_tree.specs.declared.query.Query.{Query}
use Rattle.answer_rules.specs.Pieces.{PieceView}
use Rattle.query_ends.specs.declared.end.End.{End}
use Rattle.query_ends.specs.declared.end.End.TheVariants.{Answered, Refused, Cancelled, Spent}
use Rattle.child_rules.specs.declared.bound.ChildBound.{ChildBound}
use Rattle.child_piece.specs.ChildAnswers.{IsChildAnswer, MayFinishChild}

-- the query ends answered, with the answer over the chunks of this piece
abbrev pub IsAnsweredBy : Query → ChildBound → ℕ → PieceView → End → Type 0
IsAnsweredBy head query chunks piece (Answered tree answer count) =
    (tree ≡ head) × IsChildAnswer query.bound piece answer × (count ≡ chunks)
IsAnsweredBy head query chunks piece (Refused why) = ⊥
IsAnsweredBy head query chunks piece Cancelled = ⊥
IsAnsweredBy head query chunks piece Spent = ⊥

-- the query may be finished with this piece
abbrev pub MayAnswerChild : ChildBound → PieceView → Type 0
MayAnswerChild query piece = MayFinishChild query.bound piece
