-- The ends that a session hands out, from those that it knew one by one.
use Rattle.std.proofs.Common.{◌≡◌, ℕ, ◌+◌, ◌<◌, ◌≤◌, zero, suc, List, [], ◌∷◌, ◌++◌, length, get_or, slice_get, true, Option, Some, None, is_some, ◌⊎◌, inl, inr, ⊎_elim, refl, sym, ◌∙◌, ap, subst, arith}
use Rattle.scan_rules.specs.Queries.{Journal, QueryState, Done, state_of, is_attached}
use Rattle.session_script.specs.declared.step.Step.{Step}
use Rattle.scan_session.specs.Plans.{Plans}
use Rattle.scan_session.specs.Drove.{AreEnds, Drove, IsEnd}
use Rattle.scan_session.specs.Goes.{IsScript}
use Rattle.scan_session.specs.KnownEnds.{at_query, known_in, state_by, AreKnown, PiecesStand}
use Rattle.scan_session.specs.declared.end.End.{End}
use Rattle.scan_session.specs.declared.end.End.TheVariants.{Answered, Refused, Cancelled, Spent}
use Rattle.scan_session.proofs.Quiet.{planned_attached}
use Rattle.scan_session.proofs.Wanting.{drove_wants_plans}
use Rattle.scan_session.proofs.Beginning.{any_of}

-- what is read of a list stands below its length
pub place_low : {X : Type 0} (xs : List X) (i : ℕ) (x : X) → slice_get xs i ≡ Some x → i < length xs
place_low {X} [] i x e = let n : ◌≡◌ {A = Option X} None (Some x) = e in absurd (cc)
place_low (y ∷ xs) zero x e = omega arith
place_low (y ∷ xs) (suc i) x e = let l = place_low xs i x e in omega (arith, l)

-- what is read of a longer list was read of it before, or is the last
get_pushed : {X : Type 0} (xs : List X) (y : X) (i : ℕ) (x : X) → slice_get (xs ++ y ∷ []) i ≡ Some x → (slice_get xs i ≡ Some x) ⊎ ((i ≡ length xs) × (x ≡ y))
get_pushed [] y zero x e = inr (refl, cc)
get_pushed {X} [] y (suc i) x e = let n : ◌≡◌ {A = Option X} None (Some x) = e in absurd (cc)
get_pushed (z ∷ xs) y zero x e = inl e
get_pushed (z ∷ xs) y (suc i) x e = ⊎_elim (λ l. inl l) (λ r. inr (ap suc r.0, r.1)) (get_pushed xs y i x e)

same_state : (s t : QueryState) → Some s ≡ Some t → s ≡ t
same_state s t e = cc

-- what was read of a place that is not emptied yet
pub slot_was : {X : Type 0} (old now : List (Option X)) (place : ℕ) (d r : Option X) → place < length now → r ≡ get_or now place d → ((i : ℕ) → place ≤ i → get_or now i None ≡ get_or old i None) → get_or old place None ≡ r
slot_was old now place d r low is behind = sym (behind place (omega arith)) ∙ (any_of now place None d low ∙ sym is)

module _ {P : Type 0} where
  -- one end more is handed out
  pub told_more : (known : List (Option (End P))) (ends : List (End P)) (end : End P) → ((i : ℕ) (x : End P) → slice_get ends i ≡ Some x → get_or known i None ≡ Some x) → get_or known (length ends) None ≡ Some end
      → (i : ℕ) (x : End P) → slice_get (ends ++ end ∷ []) i ≡ Some x → get_or known i None ≡ Some x
  told_more known ends end each here i x e = ⊎_elim
      (λ l. each i x l)
      (λ r. subst (λ n. get_or known n None ≡ Some x) (sym r.0) (here ∙ ap Some (sym r.1)))
      (get_pushed ends end i x e)

  pub told_none : (known : List (Option (End P))) (ends : List (End P)) → ends ≡ [] → (i : ℕ) (x : End P) → slice_get ends i ≡ Some x → get_or known i None ≡ Some x
  told_none known ends none i x e = let n : ◌≡◌ {A = Option (End P)} None (Some x) = sym (ap (λ (l : List (End P)). slice_get l i) none) ∙ e in absurd (cc)

  pub at_next : (known : List (Option (End P))) (i : ℕ) → at_query known (i + 1) ≡ get_or known i None
  at_next known i = let e : i + 1 ≡ suc i = omega arith in ap (at_query known) e

  same_end : (x y : End P) → ◌≡◌ {A = Option (End P)} (Some x) (Some y) → x ≡ y
  same_end x y e = cc

  -- the ends of all queries, each by the lines of its board, which drove the plans of its own queries
  pub ends_are : (stands : ℕ → List ℕ → P → Type 0) (workers : ℕ) (plan : Plans) (steps : List Step) (own : ℕ → Plans) (seen : ℕ → Journal) (known : List (Option (End P))) (ends : List (End P))
      → IsScript (length known) steps → ((q : ℕ) → own q q ≡ plan q) → ((q : ℕ) → Drove workers (own q) steps (seen q)) → ((q : ℕ) → is_attached (seen q) q ≡ true → known_in known q ≡ Some (state_of (seen q) q))
      → ((q : ℕ) → 1 ≤ q → q ≤ length known → plan q ≡ None → at_query known q ≡ Some Refused)
      → PiecesStand stands seen known → AreKnown known ends → AreEnds stands plan seen ends
  ends_are stands workers plan steps own seen known ends script same d tells refused pieces k = record {
    each = λ i end there.
        let low : i < length ends = place_low ends i end there in
        let len = k.len in
        let here : at_query known (i + 1) ≡ Some end = at_next known i ∙ k.each i end there in
        shows (i + 1) end (omega arith) (omega (arith, low, len)) here (plan (i + 1)) refl;
  } where
    attached : (q : ℕ) (chunks : List ℕ) → 1 ≤ q → q ≤ length known → plan q ≡ Some chunks → is_attached (seen q) q ≡ true
    attached q chunks from low p = planned_attached (own q) steps (seen q) q (d q).attached (script.all q from low) (ap is_some (same q ∙ p))

    state : (q : ℕ) (end : End P) (chunks : List ℕ) → 1 ≤ q → q ≤ length known → at_query known q ≡ Some end → plan q ≡ Some chunks → state_by (Some end) ≡ Some (state_of (seen q) q)
    state q end chunks from low here p = sym (ap state_by here) ∙ tells q (attached q chunks from low p)

    shows : (q : ℕ) (end : End P) → 1 ≤ q → q ≤ length known → at_query known q ≡ Some end → (o : Option (List ℕ)) → plan q ≡ o → IsEnd stands (seen q) q o end
    shows q end from low here None p = same_end end Refused (sym here ∙ refused q from low p)
    shows q (Answered piece) from low here (Some chunks) p = (
      sym (same_state Done (state_of (seen q) q) (state q (Answered piece) chunks from low here p)),
      subst (λ (l : List ℕ). stands q l piece) (drove_wants_plans (length known) workers (own q) steps (seen q) q chunks script (d q) (script.all q from low) (same q ∙ p)) (pieces.each q piece here).whole,
    )
    shows q Refused from low here (Some chunks) p = let n : ◌≡◌ {A = Option QueryState} None (Some (state_of (seen q) q)) = state q Refused chunks from low here p in absurd (cc)
    shows q Cancelled from low here (Some chunks) p = sym (same_state _ (state_of (seen q) q) (state q Cancelled chunks from low here p))
    shows q Spent from low here (Some chunks) p = sym (same_state _ (state_of (seen q) q) (state q Spent chunks from low here p))
