-- What a session attaches for the queries of a script: for each planned one its chunks, and its piece before any chunk.
use denote.Ref.{Bor}
use Rattle.std.specs.Prelude.{ℕ, List, [], IfSome, Option, None, Some, map, option_map}
use Rattle.sky_rules.specs.Partition.{chunk_count}
use Rattle.answer_rules.specs.Pieces.{OfRows, PieceView}
use Rattle.child_rules.specs.declared.bound.ChildBound.{ChildBound}
use Rattle.child_rules.specs.ChildBases.{ChildBase}
use Rattle.child_rules.specs.Children.{IsChild}
use Rattle.child_piece.specs.ChildRoots.{with_child}
use Rattle.scan_core.specs.declared.board_root.BoardRoot.{BoardRoot}
use Rattle.session_rules.specs.Numbers.{numbered_from}
use Rattle.scan_session.specs.KnownEnds.{plan_in}
use Rattle.scan_session.specs.Plans.{Plans}
use Rattle.scan_session.specs.declared.end.Planned.{Planned as Attachable}
use Rattle.child_session.specs.ChildSurvey.{ChildSurvey}
use Rattle.child_session.specs.declared.plan.ChildPlan.{ChildPlan}
use Rattle.child_session.specs.declared.plan.ChildPlan.TheVariants.{Planned, Refused}

-- the child query of a query that is planned
abbrev pub query_in_plan : ChildPlan → Option ChildBound
query_in_plan (Planned head query chunks) = Some query
query_in_plan (Refused why) = None

-- the root of the session's pieces: the child queries of a script, with their numbers from 1
abbrev pub child_base : ChildSurvey → List (Option ChildBound) → ChildBase
child_base t queries = record { plan = t.plan; rows = t.rows; table = t.table; queries = numbered_from 1 queries }

-- the root of the session's pieces, by the plans of its queries
abbrev pub child_base_of : ChildSurvey → List ChildPlan → ChildBase
child_base_of t plans = child_base t (map query_in_plan plans)

-- the root of a session's board: what its pieces are defined over, and the number of chunks
abbrev pub child_board_of : ChildSurvey → List ChildPlan → BoardRoot ChildBase
child_board_of t plans = record { root = child_base_of t plans; ring = chunk_count t.plan }

-- the root with one query more, if that is planned
abbrev pub with_child_if_planned : ChildBase → ℕ → Option ChildBound → ChildBase
with_child_if_planned b q (Some query) = with_child b q query
with_child_if_planned b q None = b

-- the child query of a query, if it is planned, can be run
abbrev pub CanRunChild : Option ChildBound → Type 0
CanRunChild query = IfSome query (λ q. IsChild q.bound)

-- borrowed child queries
abbrev pub query_values : List (Option (Bor ChildBound)) → List (Option ChildBound)
query_values queries = map (option_map (λ query. query.now)) queries

-- the piece of a query over no chunks
abbrev pub first_child_piece : ChildBound → PieceView
first_child_piece query = OfRows None []

-- a query with its chunks and the piece over none; nothing is attached for one that is refused
abbrev pub child_attached : ChildPlan → Option (Attachable PieceView)
child_attached (Planned head query chunks) = Some (record { chunks = chunks; empty = first_child_piece query })
child_attached (Refused why) = None

-- the chunks that are planned for each query, by its plan
abbrev pub child_chunks_planned : List ChildPlan → Plans
child_chunks_planned plans = plan_in (map child_attached plans)
