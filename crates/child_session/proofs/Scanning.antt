-- The piece that the engine makes of a query on a chunk: the child query is that at the place of its number.
use denote.Ref.{Bor}
use Rattle.std.proofs.Common.{◌≡◌, ◌∙◌, refl, sym, ap, ℕ, zero, suc, ◌-◌, ◌<◌, ◌≤◌, arith, List, [], ◌∷◌, length, get_or}
use Rattle.std.proofs.Common.{Ok, Err, Result, IfOk, None, Some, Option, option_map, is_some, true}
use Rattle.std.proofs.lemmas.List.{length-map}
use Rattle.std.proofs.lemmas.Option.{get_or_from_slice_get}
use Rattle.sky_io.specs.declared.Memory.{Memory}
use Rattle.answer_rules.specs.Pieces.{PieceView}
use Rattle.session_rules.specs.Numbers.{numbered_at, numbered_from}
use Rattle.session_rules.proofs.Numbers.{IsAt, found_at, holds_at}
use Rattle.child_rules.specs.declared.bound.ChildBound.{ChildBound}
use Rattle.child_rules.specs.ChildBases.{ChildAsks, ChildStands}
use Rattle.child_rules.specs.ChildPieces.{ChildFor}
use Rattle.child_rules.specs.Children.{IsChild}
use Rattle.child_session.specs.ChildAttached.{child_base, query_values}
use Rattle.child_session.specs.ChildSurvey.{ChildSurvey}

-- a borrowed query of a list of them, at a place
lent_at : (queries : List (Option (Bor ChildBound))) (i : ℕ) (d : Option (Bor ChildBound)) → i < length queries
    → get_or (query_values queries) i (option_map (λ query. query.now) d) ≡ option_map (λ query. query.now) (get_or queries i d)
lent_at [] i d low = absurd (omega (arith, low))
lent_at (q ∷ queries) zero d low = refl
lent_at (q ∷ queries) (suc i) d low = lent_at queries i d (omega (arith, low))

some_is : {X : Type 0} (o : Option X) → is_some o ≡ true → (x : X) × (o ≡ Some x)
some_is (Some x) e = (x, refl)
some_is None e = absurd (cc e)

none_is : {X : Type 0} (x : X) → ◌≡◌ {A = Option X} None (Some x) → ⊥
none_is x e = absurd (cc)

same_there : {X : Type 0} (x y : X) → ◌≡◌ {A = Option X} (Some x) (Some y) → x ≡ y
same_there x y e = cc

module _ (queries : List (Option (Bor ChildBound))) (q : ℕ) (known : is_some (numbered_at (numbered_from 1 (query_values queries)) q) ≡ true) where
  -- where the query is
  at_place : (x : ChildBound) × IsAt 1 (query_values queries) q x × (numbered_at (numbered_from 1 (query_values queries)) q ≡ Some x)
  at_place =
      let some = some_is (numbered_at (numbered_from 1 (query_values queries)) q) known in
      (some.0, found_at 1 (query_values queries) q some.0 some.1, some.1)

  pub from_1 : 1 ≤ q
  from_1 = let is = at_place.1.is in omega (arith, is)

  pub within : q - 1 < length queries
  within =
      let is = at_place.1.is in
      let low = at_place.1.low in
      omega (arith, is, low, length-map queries (option_map (λ query. query.now)))

  -- the entry at the place is the query
  is_there : (d : Option (Bor ChildBound)) → Some at_place.0 ≡ option_map (λ query. query.now) (get_or queries (q - 1) d)
  is_there d =
      let number = at_place.1.is in
      let place : at_place.1.place ≡ q - 1 = omega (arith, number) in
      sym (get_or_from_slice_get (query_values queries) at_place.1.place (Some at_place.0) (option_map (λ query. query.now) d) at_place.1.there)
      ∙ ap (λ n. get_or (query_values queries) n (option_map (λ query. query.now) d)) place
      ∙ lent_at queries (q - 1) d within

  pub never_none : (d : Option (Bor ChildBound)) → get_or queries (q - 1) d ≡ None → ⊥
  never_none d here = none_is at_place.0 (sym (is_there d ∙ ap (option_map (λ query. query.now)) here))

  pub given : (d : Option (Bor ChildBound)) (query : Bor ChildBound) → get_or queries (q - 1) d ≡ Some query
      → numbered_at (numbered_from 1 (query_values queries)) q ≡ Some query.now
  given d query here = at_place.2 ∙ is_there d ∙ ap (option_map (λ query. query.now)) here

-- ---- what the base asks

-- the query can be run
pub can_run : (t : ChildSurvey) (queries : List (Option (Bor ChildBound))) (q chunk : ℕ) (query : ChildBound)
    (a : ChildAsks (child_base t (query_values queries)) q chunk) → numbered_at (numbered_from 1 (query_values queries)) q ≡ Some query → IsChild query.bound
can_run t queries q chunk query a is = holds_at (λ (x : ChildBound). IsChild x.bound) (numbered_from 1 (query_values queries)) q query is a.base.child

-- and its piece is one of the query with this number
pub stands : {V : Type 0} (t : ChildSurvey) (queries : List (Option (Bor ChildBound))) (q chunk : ℕ) (query : ChildBound) (view : V → PieceView)
    (r : Result V Memory) (a : ChildAsks (child_base t (query_values queries)) q chunk) → numbered_at (numbered_from 1 (query_values queries)) q ≡ Some query
    → IfOk r (λ v. ChildFor t.plan t.rows.objects t.table.sources query.bound (chunk ∷ []) (view v))
    → IfOk r (λ v. ChildStands (child_base t (query_values queries)) q (chunk ∷ []) (view v))
stands t queries q chunk query view (Ok v) a is piece = record { base = a.base; query = query; known = is; piece = piece }
stands t queries q chunk query view (Err m) a is piece = tt
