-- Plans and the ends of their queries at the board are taken in pairs.
use Rattle.std.proofs.Common.{◌≡◌, ap, refl, subst, ℕ, zero, suc, arith, List, [], ◌∷◌, length, Some, slice_get}
use mathlib.Core.Logic.{◌⊎◌, inl, inr}
use Rattle.std.specs.List.{AllZip}
use Rattle.scan_session.specs.declared.end.End.{End as BoardEnd}
use Rattle.sql_tree.specs.declared.query.Query.{Query}
use Rattle.query_ends.specs.Ended.{AreEnded, IsEnded, MayEnd}
use Rattle.query_ends.specs.declared.end.End.{End}
use Rattle.query_ends.specs.declared.plan.QueryPlan.{QueryPlan}
use Rattle.query_ends.proofs.Zips.{none_is, same_some}

-- if one of the lists is at its end, no pair is left, and no end follows
pub none_left : {Q P U V : Type 0} {X : U → Type 0} {Y : V → Type 0} (may_answer : Q → P → Type 0)
    (answers : Query → Q → ℕ → P → End → Type 0) (plans : List (QueryPlan Q)) (ends : List (BoardEnd P)) (m n : ℕ)
    → m ≡ length plans → n ≡ length ends → AllZip (MayEnd may_answer) plans ends
    → ((u : U) × ((m ≡ 0) × X u)) ⊎ ((v : V) × ((n ≡ 0) × Y v)) → AreEnded answers plans ends []
none_left may_answer answers [] [] m n plans_len ends_len may none = tt
none_left may_answer answers [] (e ∷ ends) m n plans_len ends_len may none = absurd may
none_left may_answer answers (p ∷ plans) [] m n plans_len ends_len may none = absurd may
none_left may_answer answers (p ∷ plans) (e ∷ ends) m n plans_len ends_len may (inl none) =
    let zero = none.1.0 in absurd (omega (arith, zero, plans_len))
none_left may_answer answers (p ∷ plans) (e ∷ ends) m n plans_len ends_len may (inr none) =
    let zero = none.1.0 in absurd (omega (arith, zero, ends_len))

-- there are as many ends of queries as plans
pub ended_length : {Q P : Type 0} (answers : Query → Q → ℕ → P → End → Type 0) (plans : List (QueryPlan Q)) (ends : List (BoardEnd P))
    (qs : List End) → AreEnded answers plans ends qs → length qs ≡ length plans
ended_length answers [] [] [] ended = refl
ended_length answers [] [] (q ∷ qs) ended = absurd ended
ended_length answers [] (e ∷ ends) qs ended = absurd ended
ended_length answers (p ∷ plans) [] qs ended = absurd ended
ended_length answers (p ∷ plans) (e ∷ ends) [] ended = absurd ended
ended_length answers (p ∷ plans) (e ∷ ends) (q ∷ qs) ended = ap suc (ended_length answers plans ends qs ended.1)

-- The end of a query at an index is by its plan and its end at the board.
pub record EndedAt {Q P : Type 0} (answers : Query → Q → ℕ → P → End → Type 0) (plans : List (QueryPlan Q)) (ends : List (BoardEnd P))
    (i : ℕ) (q : End) : Type 0 where
  pub plan : QueryPlan Q
  pub end : BoardEnd P
  pub planned : slice_get plans i ≡ Some plan
  pub there : slice_get ends i ≡ Some end
  pub ended : IsEnded answers plan end q

pub ended_at : {Q P : Type 0} (answers : Query → Q → ℕ → P → End → Type 0) (plans : List (QueryPlan Q)) (ends : List (BoardEnd P))
    (qs : List End) (i : ℕ) (q : End) → AreEnded answers plans ends qs → slice_get qs i ≡ Some q → EndedAt answers plans ends i q
ended_at answers [] [] [] i q ended there = absurd (none_is q there)
ended_at answers [] [] (x ∷ qs) i q ended there = absurd ended
ended_at answers [] (e ∷ ends) qs i q ended there = absurd ended
ended_at answers (p ∷ plans) [] qs i q ended there = absurd ended
ended_at answers (p ∷ plans) (e ∷ ends) [] i q ended there = absurd ended
ended_at answers (p ∷ plans) (e ∷ ends) (x ∷ qs) zero q ended there = record {
  plan = p;
  end = e;
  planned = refl;
  there = refl;
  ended = subst (λ (y : End). IsEnded answers p e y) (same_some x q there) ended.0;
}
ended_at answers (p ∷ plans) (e ∷ ends) (x ∷ qs) (suc i) q ended there =
    let at = ended_at answers plans ends qs i q ended.1 there in
    record { plan = at.plan; end = at.end; planned = at.planned; there = at.there; ended = at.ended }
