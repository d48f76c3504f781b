-- What is attached for the queries of a script fits the board, if what is attached for each planned one does.
use Rattle.std.proofs.Common.{◌≡◌, refl, subst, ℕ, zero, suc, List, [], ◌∷◌, map, get_or, None, Some, slice_get}
use Rattle.sql_tree.specs.declared.query.Query.{Query}
use Rattle.scan_session.specs.KnownEnds.{MayStart, PlansFit, at_query}
use Rattle.scan_session.specs.declared.end.Planned.{Planned as Attachable}
use Rattle.query_ends.specs.Attached.{attached}
use Rattle.query_ends.specs.declared.plan.QueryPlan.{QueryPlan}
use Rattle.query_ends.specs.declared.plan.QueryPlan.TheVariants.{Planned, Refused}
use Rattle.query_ends.proofs.Zips.{none_is, same_some}

-- what is attached for the query at a place is so for its plan
plan_there : {Q P : Type 0} (first_piece : Q → P) (plans : List (QueryPlan Q)) (i : ℕ) (it : Attachable P)
    → get_or (map (attached first_piece) plans) i None ≡ Some it
    → (p : QueryPlan Q) × (slice_get plans i ≡ Some p) × (attached first_piece p ≡ Some it)
plan_there first_piece [] i it is = absurd (none_is it is)
plan_there first_piece (p ∷ plans) zero it is = (p, refl, is)
plan_there first_piece (p ∷ plans) (suc i) it is = plan_there first_piece plans i it is

module _ {Q P R : Type 0} (first_piece : Q → P) (stands : R → ℕ → List ℕ → P → Type 0) (asks : R → ℕ → ℕ → Type 0) (ring : ℕ) (root : R)
    (plans : List (QueryPlan Q))
    (may : (i : ℕ) (head : Query) (query : Q) (chunks : List ℕ) → slice_get plans i ≡ Some (Planned head query chunks)
    → MayStart stands asks ring root (suc i) (record { chunks = chunks; empty = first_piece query })) where
  by_plan : (i : ℕ) (p : QueryPlan Q) (it : Attachable P) → slice_get plans i ≡ Some p → attached first_piece p ≡ Some it
      → MayStart stands asks ring root (suc i) it
  by_plan i (Planned head query chunks) it there is =
      subst (λ (x : Attachable P). MayStart stands asks ring root (suc i) x) (same_some _ _ is) (may i head query chunks there)
  by_plan i (Refused why) it there is = absurd (none_is it is)

  each_fits : (q : ℕ) (it : Attachable P) → at_query (map (attached first_piece) plans) q ≡ Some it
      → MayStart stands asks ring root q it
  each_fits zero it is = absurd (none_is it is)
  each_fits (suc i) it is = let at = plan_there first_piece plans i it is in by_plan i at.0 it at.1 at.2

  pub plans_fit : PlansFit stands asks ring root (map (attached first_piece) plans)
  plans_fit = record { each = each_fits }
