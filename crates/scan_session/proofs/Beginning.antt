-- The ends that are known before the session.
use Rattle.std.proofs.Common.{◌≡◌, ℕ, ◌+◌, ◌<◌, ◌≤◌, zero, suc, List, [], ◌∷◌, ◌++◌, length, length-append, get_or, Bool, true, false, Option, Some, None, is_some, option_map, ◌⊎◌, ⊎_elim, refl, sym, ◌∙◌, ap, subst, arith}
use Rattle.scan_rules.specs.Queries.{Journal, QueryState}
use Rattle.scan_board.specs.Calls.{BoardSeat}
use Rattle.scan_session.specs.Plans.{AllRunAtOnce, Plans}
use Rattle.scan_session.specs.Driven.{Going}
use Rattle.scan_session.specs.Places.{only, GoingAll, HasRoom}
use Rattle.scan_session.specs.KnownEnds.{at_query, plan_in, known_in, state_by, IsFirstEnd, MarksPlans, Marks, Ready, PiecesStand, StandsWhole}
use Rattle.scan_session.specs.declared.end.Planned.{Planned}
use Rattle.scan_session.specs.declared.end.End.{End}
use Rattle.scan_session.specs.declared.end.End.TheVariants.{Answered, Refused}
use Rattle.scan_session.proofs.Keeping.{nothing_going}
use Rattle.scan_session.proofs.Placing.{only_none}
use Rattle.std.proofs.lemmas.Bool.{both_ways}

get_low : {X : Type 0} (xs ys : List X) (i : ℕ) (d : X) → i < length xs → get_or (xs ++ ys) i d ≡ get_or xs i d
get_low [] ys i d h = absurd (omega (arith, h))
get_low (x ∷ xs) ys zero d h = refl
get_low (x ∷ xs) ys (suc i) d h = get_low xs ys i d (omega (arith, h))

get_seam : {X : Type 0} (xs : List X) (y : X) (ys : List X) (d : X) → get_or (xs ++ y ∷ ys) (length xs) d ≡ y
get_seam [] y ys d = refl
get_seam (x ∷ xs) y ys d = get_seam xs y ys d

get_beyond : {X : Type 0} (xs : List (Option X)) (i : ℕ) → length xs ≤ i → get_or xs i None ≡ None
get_beyond [] i h = refl
get_beyond (x ∷ xs) zero h = absurd (omega (arith, h))
get_beyond (x ∷ xs) (suc i) h = get_beyond xs i (omega (arith, h))

pub any_of : {X : Type 0} (xs : List X) (i : ℕ) (d e : X) → i < length xs → get_or xs i d ≡ get_or xs i e
any_of [] i d e h = absurd (omega (arith, h))
any_of (x ∷ xs) zero d e h = refl
any_of (x ∷ xs) (suc i) d e h = any_of xs i d e (omega (arith, h))

below_or : (m n : ℕ) → (m < n) ⊎ (n ≤ m)
below_or m n = grind arith

module _ {P : Type 0} where
  -- one end more
  pub marks_push : (plans : List (Option (Planned P))) (ends : List (Option (End P))) (x : Option (End P)) → MarksPlans plans ends → ((d : Option (Planned P)) → IsFirstEnd (get_or plans (length ends) d) x) → MarksPlans plans (ends ++ x ∷ [])
  marks_push plans ends x m here = record {
    each = λ i d e low. ⊎_elim
        (λ lt. subst (λ y. IsFirstEnd (get_or plans i d) y) (sym (get_low ends (x ∷ []) i e lt)) (m.each i d e lt))
        (λ ge. let len : length (ends ++ x ∷ []) ≡ length ends + 1 = length-append ends (x ∷ []) in
        let same : length ends ≡ i = omega (arith, len, low, ge) in
        subst (λ n. IsFirstEnd (get_or plans n d) (get_or (ends ++ x ∷ []) n e)) same (subst (λ y. IsFirstEnd (get_or plans (length ends) d) y) (sym (get_seam ends x [] e)) (here d)))
        (below_or i (length ends));
  }

  no_plan : (p : Option (Planned P)) (e : Option (End P)) → IsFirstEnd p e → e ≡ Some Refused → p ≡ None
  no_plan None e f h = refl
  no_plan (Some p) e f h = let n : ◌≡◌ {A = Option (End P)} None (Some Refused) = sym f ∙ h in absurd (cc)

  a_plan : (p : Option (Planned P)) (e : Option (End P)) → IsFirstEnd p e → e ≡ None → is_some (option_map (λ x. x.chunks) p) ≡ true
  a_plan None e f h = let n : ◌≡◌ {A = Option (End P)} (Some Refused) None = sym f ∙ h in absurd (cc)
  a_plan (Some p) e f h = refl

  no_state : (p : Option (Planned P)) (e : Option (End P)) → IsFirstEnd p e → state_by e ≡ None
  no_state None e f = ap state_by f
  no_state (Some p) e f = ap state_by f

  no_piece : (p : Option (Planned P)) (e : Option (End P)) (piece : P) → IsFirstEnd p e → e ≡ Some (Answered piece) → ⊥
  no_piece None e piece f h = let n : ◌≡◌ {A = Option (End P)} (Some Refused) (Some (Answered piece)) = sym f ∙ h in cc
  no_piece (Some p) e piece f h = let n : ◌≡◌ {A = Option (End P)} None (Some (Answered piece)) = sym f ∙ h in cc

  pub marks_first : (plans : List (Option (Planned P))) (ends : List (Option (End P))) → MarksPlans plans ends → Marks (plan_in plans) ends
  marks_first plans ends m = record { refused = refused; planned = planned } where
    refused : (q : ℕ) → at_query ends q ≡ Some Refused → plan_in plans q ≡ None
    refused zero h = refl
    refused (suc k) h = ⊎_elim
        (λ lt. ap (λ (o : Option (Planned P)). option_map (λ x. x.chunks) o) (no_plan (get_or plans k None) (get_or ends k None) (m.each k None None lt) h))
        (λ ge. let n : ◌≡◌ {A = Option (End P)} None (Some Refused) = sym (get_beyond ends k ge) ∙ h in absurd (cc))
        (below_or k (length ends))

    planned : (q : ℕ) → 1 ≤ q → q ≤ length ends → at_query ends q ≡ None → is_some (plan_in plans q) ≡ true
    planned zero h low none = absurd (omega (arith, h))
    planned (suc k) h low none = a_plan (get_or plans k None) (get_or ends k None) (m.each k None None (omega (arith, low))) none

  pub ready_first : (plans : List (Option (Planned P))) → Ready (plan_in plans) [] plans
  ready_first plans = record { ready = λ q free. refl }

  unknown_first : (plans : List (Option (Planned P))) (ends : List (Option (End P))) → MarksPlans plans ends → (q : ℕ) → known_in ends q ≡ None
  unknown_first plans ends m zero = refl
  unknown_first plans ends m (suc k) = ⊎_elim
      (λ lt. no_state (get_or plans k None) (get_or ends k None) (m.each k None None lt))
      (λ ge. ap state_by (get_beyond ends k ge))
      (below_or k (length ends))

  pub going_first : {R L : Type 0} (has : L → ℕ → Bool) (plans : List (Option (Planned P))) (ends : List (Option (End P))) (seats : L → BoardSeat R) → MarksPlans plans ends → ((p : L) → (seats p).seen ≡ []) → GoingAll has (plan_in plans) [] seats (known_in ends)
  going_first has plans ends seats m e p =
      let here : Plans = only (has p) (plan_in plans) in
      let known : ℕ → Option QueryState = only (has p) (known_in ends) in
      subst (λ (l : Journal). Going (HasRoom (plan_in plans) seats) here [] l known) (sym (e p)) (nothing_going here known (λ q. only_none (has p q) (known_in ends q) (unknown_first plans ends m q)))

  -- a query that is not planned is refused from the first
  pub refused_first : (plans : List (Option (Planned P))) (ends : List (Option (End P))) → MarksPlans plans ends → (q : ℕ) → 1 ≤ q → q ≤ length ends → plan_in plans q ≡ None → at_query ends q ≡ Some Refused
  refused_first plans ends m zero from low none = absurd (omega (arith, from))
  refused_first plans ends m (suc k) from low none = unplanned (get_or plans k None) (get_or ends k None) (m.each k None None (omega (arith, low))) none where
    unplanned : (p : Option (Planned P)) (e : Option (End P)) → IsFirstEnd p e → option_map (λ x. x.chunks) p ≡ None → e ≡ Some Refused
    unplanned None e f n = f
    unplanned (Some p) e f n = let w : Some p.chunks ≡ None = n in absurd (cc)

  beyond : (plans : List (Option (Planned P))) (q : ℕ) → is_some (plan_in plans q) ≡ true → q ≤ length plans
  beyond plans zero h = omega arith
  beyond plans (suc k) h = ⊎_elim
      (λ lt. omega (arith, lt))
      (λ ge. let n : is_some (plan_in plans (suc k)) ≡ false = ap (λ (o : Option (Planned P)). is_some (option_map (λ x. x.chunks) o)) (get_beyond plans k ge) in absurd (both_ways _ n h))
      (below_or k (length plans))

  -- all of so many queries can run at once
  pub room_first : (plans : List (Option (Planned P))) → length plans ≤ 64 → AllRunAtOnce (plan_in plans)
  room_first plans few = record { low = λ q h. let l = beyond plans q h in omega (arith, l, few) }

  pub pieces_first : (stands : ℕ → List ℕ → P → Type 0) (plans : List (Option (Planned P))) (ends : List (Option (End P))) (seen : ℕ → Journal) → MarksPlans plans ends → PiecesStand stands seen ends
  pieces_first stands plans ends seen m = record { each = each } where
    each : (q : ℕ) (piece : P) → at_query ends q ≡ Some (Answered piece) → StandsWhole stands (seen q) q piece
    each zero piece h = let n : ◌≡◌ {A = Option (End P)} None (Some (Answered piece)) = h in absurd (cc)
    each (suc k) piece h = ⊎_elim
        (λ lt. absurd (no_piece (get_or plans k None) (get_or ends k None) piece (m.each k None None lt) h))
        (λ ge. let n : ◌≡◌ {A = Option (End P)} None (Some (Answered piece)) = sym (get_beyond ends k ge) ∙ h in absurd (cc))
        (below_or k (length ends))
