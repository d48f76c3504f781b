-- What the ends that a session leaves are, plan by plan. Queries of a form are Q, and their pieces are P.
use Rattle.std.proofs.Common.{◌≡◌, ◌∙◌, sym, ap, refl, subst, ℕ, suc, ◌+◌, arith, List, length, map, None, Some, Option, option_map, slice_get}
use Rattle.std.proofs.lemmas.Option.{get_or_from_slice_get, slice_get-map}
use Rattle.scan_rules.specs.Queries.{Journal, Done, Cancelled as CancelledState, Spent as SpentState, state_of}
use Rattle.sql_tree.specs.declared.query.Query.{Query}
use Rattle.scan_session.specs.Drove.{AreEnds, IsEnd}
use Rattle.scan_session.specs.declared.end.End.{End as BoardEnd}
use Rattle.scan_session.specs.declared.end.End.TheVariants as board
use Rattle.query_ends.specs.Attached.{attached, chunks_in, planned_for}
use Rattle.query_ends.specs.declared.plan.QueryPlan.{QueryPlan}
use Rattle.query_ends.specs.declared.plan.QueryPlan.TheVariants.{Planned, Refused}

-- the end of a query by its plan: the state of the query in the end, and the piece over its chunks
abbrev pub IsEndFor : {Q P : Type 0} → (Q → List ℕ → P → Type 0) → Journal → ℕ → QueryPlan Q → BoardEnd P → Type 0
IsEndFor for S k (Planned head query chunks) (board.Answered piece) = (state_of S k ≡ Done) × for query chunks piece
IsEndFor for S k (Planned head query chunks) board.Refused = ⊥
IsEndFor for S k (Planned head query chunks) board.Cancelled = state_of S k ≡ CancelledState
IsEndFor for S k (Planned head query chunks) board.Spent = state_of S k ≡ SpentState
IsEndFor for S k (Refused why) (board.Answered piece) = ⊥
IsEndFor for S k (Refused why) board.Refused = Unit {0}
IsEndFor for S k (Refused why) board.Cancelled = ⊥
IsEndFor for S k (Refused why) board.Spent = ⊥

-- The ends of the queries with these plans, from number 1 on, each by the journal of its board.
pub record AreEndsFor {Q P : Type 0} (for : Q → List ℕ → P → Type 0) (S : ℕ → Journal) (plans : List (QueryPlan Q))
    (ends : List (BoardEnd P)) : Type 0 where
  pub each : length ends ≡ length plans
  pub at : (i : ℕ) (p : QueryPlan Q) (e : BoardEnd P) → slice_get plans i ≡ Some p → slice_get ends i ≡ Some e
      → IsEndFor for (S (suc i)) (suc i) p e

-- what a piece of the query with this number represents is its query over its chunks
abbrev pub StandsByPlan : {Q P : Type 0} → (Q → List ℕ → P → Type 0) → (ℕ → List ℕ → P → Type 0) → List (QueryPlan Q) → Type 0
StandsByPlan {Q} {P} for stands plans =
    (i : ℕ) (head : Query) (query : Q) (chunks : List ℕ) (piece : P) → slice_get plans i ≡ Some (Planned head query chunks)
    → stands (suc i) chunks piece → for query chunks piece

-- what is planned for the query at a place
chunks_attached : {Q P : Type 0} (first_piece : Q → P) (p : QueryPlan Q)
    → option_map (λ x. x.chunks) (attached first_piece p) ≡ chunks_in p
chunks_attached first_piece (Planned head query chunks) = refl
chunks_attached first_piece (Refused why) = refl

pub planned_in : {Q P : Type 0} (first_piece : Q → P) (plans : List (QueryPlan Q)) (i : ℕ) (p : QueryPlan Q) → slice_get plans i ≡ Some p
    → planned_for first_piece plans (suc i) ≡ chunks_in p
planned_in first_piece plans i p there =
    ap (option_map (λ x. x.chunks))
    (get_or_from_slice_get (map (attached first_piece) plans) i (attached first_piece p) None
    (slice_get-map (attached first_piece) plans i ∙ ap (option_map (attached first_piece)) there))
    ∙ chunks_attached first_piece p

end_for : {Q P : Type 0} (for : Q → List ℕ → P → Type 0) (stands : ℕ → List ℕ → P → Type 0) (S : Journal) (plans : List (QueryPlan Q))
    (i : ℕ) (p : QueryPlan Q) (e : BoardEnd P) → StandsByPlan for stands plans → slice_get plans i ≡ Some p
    → IsEnd stands S (suc i) (chunks_in p) e → IsEndFor for S (suc i) p e
end_for for stands S plans i (Planned head query chunks) (board.Answered piece) by there is =
    (is.0, by i head query chunks piece there is.1)
end_for for stands S plans i (Planned head query chunks) board.Refused by there is = is
end_for for stands S plans i (Planned head query chunks) board.Cancelled by there is = is
end_for for stands S plans i (Planned head query chunks) board.Spent by there is = is
end_for {Q} {P} for stands S plans i (Refused why) e by there is =
    subst (λ (x : BoardEnd P). IsEndFor for S (suc i) (Refused why) x) (sym is) tt

-- the ends that a session leaves, by what its pieces represent
pub ends_for : {Q P : Type 0} (for : Q → List ℕ → P → Type 0) (first_piece : Q → P) (stands : ℕ → List ℕ → P → Type 0) (S : ℕ → Journal)
    (plans : List (QueryPlan Q)) (ends : List (BoardEnd P)) → StandsByPlan for stands plans → length ends ≡ length plans
    → AreEnds stands (planned_for first_piece plans) S ends → AreEndsFor for S plans ends
ends_for {Q} {P} for first_piece stands S plans ends by each are = record {
  each = each;
  at = λ i p e here there.
      let on : i + 1 ≡ suc i = omega arith in
      let is : IsEnd stands (S (suc i)) (suc i) (planned_for first_piece plans (suc i)) e =
      subst (λ n. IsEnd stands (S n) n (planned_for first_piece plans n) e) on (are.each i e there) in
      end_for for stands (S (suc i)) plans i p e by here
      (subst (λ (o : Option (List ℕ)). IsEnd stands (S (suc i)) (suc i) o e) (planned_in first_piece plans i p here) is);
}
