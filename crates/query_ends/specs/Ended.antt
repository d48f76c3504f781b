-- The end of a query, by its plan and by how it ended at the board. Queries of a form are Q, and their pieces are P.
use Rattle.std.specs.Prelude.{◌≡◌, ℕ, ◌≤◌, List, [], ◌∷◌, length}
use Rattle.sky_rules.specs.declared.limits.TheConstants.{CHUNKS_MOST}
use Rattle.sql_tree.specs.declared.query.Query.{Query}
use Rattle.scan_session.specs.declared.end.End.{End as BoardEnd}
use Rattle.scan_session.specs.declared.end.End.TheVariants as board
use Rattle.query_ends.specs.declared.end.End.{End}
use Rattle.query_ends.specs.declared.end.End.TheVariants.{Refused, Cancelled, Spent}
use Rattle.query_ends.specs.declared.plan.QueryPlan.{QueryPlan}
use Rattle.query_ends.specs.declared.plan.QueryPlan.TheVariants as plan

-- the end of a query that is planned, by what its piece answers and by how it ended at the board, where no planned query is
-- refused; one that was lost there is out of memory
abbrev pub IsPlannedEnd : {P : Type 0} → (P → End → Type 0) → BoardEnd P → End → Type 0
IsPlannedEnd answers (board.Answered piece) end = answers piece end
IsPlannedEnd answers board.Refused end = ⊥
IsPlannedEnd answers board.Cancelled end = end ≡ Cancelled
IsPlannedEnd answers board.Spent end = end ≡ Spent

-- the end of a query with this plan, by how it ended at the board
abbrev pub IsEnded : {Q P : Type 0} → (Query → Q → ℕ → P → End → Type 0) → QueryPlan Q → BoardEnd P → End → Type 0
IsEnded answers (plan.Planned head query chunks) end query_end =
    IsPlannedEnd (answers head query (length chunks)) end query_end
IsEnded answers (plan.Refused why) end query_end = query_end ≡ Refused why

-- there is an end for each of the queries with these plans, in their order
abbrev pub AreEnded : {Q P : Type 0} → (Query → Q → ℕ → P → End → Type 0) → List (QueryPlan Q) → List (BoardEnd P)
    → List End → Type 0
AreEnded answers [] [] [] = Unit {0}
AreEnded answers (p ∷ plans) (e ∷ ends) (q ∷ query_ends) =
    IsEnded answers p e q × AreEnded answers plans ends query_ends
AreEnded answers plans ends query_ends = ⊥

-- a planned query may end so at the board: it may be answered from its piece, and the number of these chunks is within its
-- limit; no planned query is refused there
abbrev pub MayAnswer : {P : Type 0} → (P → Type 0) → List ℕ → BoardEnd P → Type 0
MayAnswer may_answer chunks (board.Answered piece) = may_answer piece × (length chunks ≤ CHUNKS_MOST)
MayAnswer may_answer chunks board.Refused = ⊥
MayAnswer may_answer chunks board.Cancelled = Unit {0}
MayAnswer may_answer chunks board.Spent = Unit {0}

-- a query with this plan may end so at the board
abbrev pub MayEnd : {Q P : Type 0} → (Q → P → Type 0) → QueryPlan Q → BoardEnd P → Type 0
MayEnd may_answer (plan.Planned head query chunks) end = MayAnswer (may_answer query) chunks end
MayEnd may_answer (plan.Refused why) end = Unit {0}
