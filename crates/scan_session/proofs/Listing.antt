-- Lists by the numbers of queries, from 1: what a change of one place leaves.
use Rattle.std.proofs.Common.{◌≡◌, ℕ, ◌-◌, ◌≤◌, ◌<◌, ◌==◌, zero, suc, List, [], ◌∷◌, ◌++◌, length, get_or, slice_set, Bool, true, false, cond, Option, Some, None, option_map, is_some, ◌⊎◌, inl, inr, ⊎_elim, refl, sym, ◌∙◌, ap, subst, arith, get_or-set_same, get_or-set_other, eqb-true, eq-eqb}
use Rattle.std.proofs.lemmas.Bool.{cases_Bool, cases_eq, both_ways, cond-true, cond-false, true≢false, false≢true, or_parts}
use Rattle.std.specs.List.{list_any}
use mathlib.Core.List.{IsPrefix}
use Rattle.scan_rules.specs.Queries.{Journal, QueryState, wanted}
use Rattle.scan_rules.specs.Runs.{IsRun}
use Rattle.scan_rules.specs.Lines.{attaches}
use Rattle.scan_rules.proofs.Runs.{wanted_stays}
use Rattle.scan_rules.proofs.Lists.{any_stays, any_append}
use Rattle.session_script.specs.declared.step.Step.{Step}
use Rattle.session_script.specs.declared.step.Step.TheVariants.{Query, Wait, Cancel as CancelStep}
use Rattle.session_rules.specs.Ends.{asks as is_query_of}
use Rattle.sql_token.specs.declared.token.Span.{Span}
use Rattle.scan_session.specs.Plans.{Plans}
use Rattle.scan_session.specs.Driven.{Driving, Going}
use Rattle.scan_board.specs.Calls.{BoardSeat}
use Rattle.scan_session.specs.Seats.{Stays}
use Rattle.scan_session.specs.Goes.{Goes}
use Rattle.scan_session.specs.Places.{only, over_root, seen_of, DrivingAll, GoingAll, AllStand, AllFit}
use Rattle.scan_session.specs.KnownEnds.{at_query, state_by, known_in, with_end, StandsWhole, IsCollected, PiecesStand, PlansFit, Ready, Marks, MoreKnown}
use Rattle.scan_session.specs.Czars.{Learns}
use Rattle.scan_session.specs.declared.end.Planned.{Planned}
use Rattle.scan_session.specs.declared.end.End.{End}
use Rattle.scan_session.specs.declared.end.End.TheVariants.{Answered, Refused, Cancelled, Spent}
use Rattle.scan_session.specs.declared.end.Outcome.{Outcome}
use Rattle.scan_session.specs.declared.end.Outcome.TheVariants.{Went, Memory, Odd}
use Rattle.scan_session.proofs.Others.{alone_clean}
use Rattle.scan_session.proofs.Placing.{driven_ends, else_is, here_is}
use Rattle.scan_session.proofs.Keeping.{stopped_late, stopped_refused, waited, waited_refused, going_waited}

module _ {X : Type 0} where
  pub at_place : (list : List (Option X)) (q : ℕ) → 1 ≤ q → at_query list q ≡ get_or list (q - 1) None
  at_place list zero h = absurd (omega (arith, h))
  at_place list (suc k) h = let e : suc k - 1 ≡ k = omega arith in ap (λ n. get_or list n None) (sym e)

  pub set_same : (list : List (Option X)) (q : ℕ) (x : Option X) → 1 ≤ q → q ≤ length list → at_query (slice_set list (q - 1) x) q ≡ x
  set_same list q x h low = at_place (slice_set list (q - 1) x) q h ∙ get_or-set_same list (q - 1) x None (omega (arith, h, low))

  pub set_other : (list : List (Option X)) (q p : ℕ) (x : Option X) → 1 ≤ q → (p ≡ q → ⊥) → at_query (slice_set list (q - 1) x) p ≡ at_query list p
  set_other list q zero x h ne = refl
  set_other list q (suc k) x h ne = get_or-set_other list (q - 1) k x None (λ e. ne (omega (arith, e, h)))

  pub none_of : (o : Option X) → is_some o ≡ false → o ≡ None
  none_of None h = refl
  none_of (Some a) h = absurd (true≢false h)

  pub some_of : (o : Option X) → is_some o ≡ true → (x : X) × (o ≡ Some x)
  some_of None h = absurd (false≢true h)
  some_of (Some a) h = (a, refl)

  any_default : (list : List (Option X)) (i : ℕ) (d e : Option X) → i < length list → get_or list i d ≡ get_or list i e
  any_default [] i d e h = absurd (omega (arith, h))
  any_default (x ∷ list) zero d e h = refl
  any_default (x ∷ list) (suc i) d e h = any_default list i d e (omega (arith, h))

  -- what was read of a place
  pub at_read : (list : List (Option X)) (q : ℕ) (x : Option X) → 1 ≤ q → q ≤ length list → x ≡ get_or list (q - 1) x → at_query list q ≡ x
  at_read list q x h low is = at_place list q h ∙ (any_default list (q - 1) None x (omega (arith, h, low)) ∙ sym is)

  -- the test of a place
  pub unset : (list : List (Option X)) (q : ℕ) → 1 ≤ q → is_some (get_or list (q - 1) None) ≡ false → at_query list q ≡ None
  unset list q h n = at_place list q h ∙ none_of _ n

  pub set_there : (list : List (Option X)) (q : ℕ) → 1 ≤ q → is_some (get_or list (q - 1) None) ≡ true → is_some (at_query list q) ≡ true
  set_there list q h n = ap is_some (at_place list q h) ∙ n

-- a cancel line of a query that was refused, or has ended
pub cancel_known : {Room : Type 0} {ring : ℕ} → (plan : Plans) (done : List Step) (S : Journal) (ends : ℕ → Option QueryState) (q : ℕ) → IsRun ring S → (is_some (plan q) ≡ false) ⊎ ((s : QueryState) × (ends q ≡ Some s)) → list_any (is_query_of q) done ≡ true
    → Going Room plan done S ends → Going Room plan (done ++ CancelStep q ∷ []) S ends
cancel_known plan done S ends q r k started g = ⊎_elim
    (λ n. stopped_refused plan done S ends q n g)
    (λ s. record {
      drives = λ f. (stopped_late plan done S ends q r started ((g.drives f).ended q s.0 s.1).stopped g).drives f;
      calm = λ alone room. (stopped_late plan done S ends q r started ((g.drives (alone_clean S alone)).ended q s.0 s.1).stopped g).calm alone room;
    })
    k

-- a wait line of such a query
wait_known : {Room : Type 0} (plan : Plans) (done : List Step) (S : Journal) (ends : ℕ → Option QueryState) (q : ℕ) → (is_some (plan q) ≡ false) ⊎ ((s : QueryState) × (ends q ≡ Some s)) → list_any (is_query_of q) done ≡ true
    → Driving Room plan done S ends → Driving Room plan (done ++ Wait q ∷ []) S ends
wait_known plan done S ends q k started dr f = ⊎_elim
    (λ n. waited_refused plan done S ends q n dr f)
    (λ s. waited plan done S ends q started ((dr f).ended q s.0 s.1).stopped dr f)
    k

module _ {P : Type 0} where
  pub set_end : (ends : List (Option (End P))) (q : ℕ) (end : End P) → 1 ≤ q → q ≤ length ends → (p : ℕ) → known_in (slice_set ends (q - 1) (Some end)) p ≡ with_end (known_in ends) q (state_by (Some end)) p
  set_end ends q end h low p = ⊎_elim
      (λ t. let qp : q ≡ p = eqb-true q p t in
      subst (λ z. known_in (slice_set ends (q - 1) (Some end)) z ≡ state_by (Some end)) qp (ap state_by (set_same ends q (Some end) h low)) ∙ sym (cond-true (q == p) _ _ t))
      (λ n. ap state_by (set_other ends q p (Some end) h (λ x. both_ways _ n (eq-eqb q p (sym x)))) ∙ sym (cond-false (q == p) _ _ n))
      (cases_Bool (q == p))

  pub drives_set : {R L : Type 0} → (has : L → ℕ → Bool) (plan : Plans) (done : List Step) (seats : L → BoardSeat R) (ends : List (Option (End P))) (q : ℕ) (end : End P) → 1 ≤ q → q ≤ length ends
      → DrivingAll has plan done seats (with_end (known_in ends) q (state_by (Some end))) → DrivingAll has plan done seats (known_in (slice_set ends (q - 1) (Some end)))
  drives_set has plan done seats ends q end h low d p f =
      driven_ends (only (has p) plan) done (seats p).seen (only (has p) (with_end (known_in ends) q (state_by (Some end)))) (only (has p) (known_in (slice_set ends (q - 1) (Some end))))
      (λ r. ap (λ (o : Option QueryState). cond (has p r) o None) (sym (set_end ends q end h low r))) (d p f)

  not_refused : (stands : ℕ → List ℕ → P → Type 0) (S : Journal) (q : ℕ) (end : End P) → IsCollected stands S q end → ◌≡◌ {A = Option (End P)} (Some end) (Some Refused) → ⊥
  not_refused stands S q Refused c e = c
  not_refused stands S q (Answered p) c e = apart (Answered p) e refl where
    apart : (x : End P) → ◌≡◌ {A = Option (End P)} (Some x) (Some Refused) → x ≡ Answered p → ⊥
    apart x e f = cc
  not_refused stands S q Cancelled c e = cc
  not_refused stands S q Spent c e = cc

  pub more_set : (stands : ℕ → List ℕ → P → Type 0) (S : Journal) (ends : List (Option (End P))) (q : ℕ) (end : End P) → 1 ≤ q → q ≤ length ends → at_query ends q ≡ None → IsCollected stands S q end → length (slice_set ends (q - 1) (Some end)) ≡ length ends → MoreKnown ends (slice_set ends (q - 1) (Some end))
  more_set stands S ends q end h low none c len = record {
    len = len;
    stay = λ p e at. ⊎_elim
        (λ pq. let n : None ≡ Some e = sym none ∙ subst (λ z. at_query ends z ≡ Some e) pq at in absurd (cc))
        (λ ne. set_other ends q p (Some end) h ne ∙ at)
        (cases_eq p q);
    refused = λ p at. ⊎_elim
        (λ pq. absurd (not_refused stands S q end c (sym (set_same ends q (Some end) h low) ∙ subst (λ z. at_query (slice_set ends (q - 1) (Some end)) z ≡ Some Refused) pq at)))
        (λ ne. sym (set_other ends q p (Some end) h ne) ∙ at)
        (cases_eq p q);
  }

  pub more_here : (ends : List (Option (End P))) → MoreKnown ends ends
  more_here ends = record { len = refl; stay = λ q e at. at; refused = λ q at. at }

  pub more_on : (a b c : List (Option (End P))) → MoreKnown a b → MoreKnown b c → MoreKnown a c
  more_on a b c s t = record { len = t.len ∙ s.len; stay = λ q e at. t.stay q e (s.stay q e at); refused = λ q at. s.refused q (t.refused q at) }

  pub marks_on : (plan : Plans) (a b : List (Option (End P))) → MoreKnown a b → Marks plan a → Marks plan b
  marks_on plan a b m k = record {
    refused = λ q at. k.refused q (m.refused q at);
    planned = λ q h low none. k.planned q h (subst (λ n. q ≤ n) m.len low) (was_none q none);
  } where
    was_none : (q : ℕ) → at_query b q ≡ None → at_query a q ≡ None
    was_none q none = by (at_query a q) refl where
      by : (o : Option (End P)) → at_query a q ≡ o → at_query a q ≡ None
      by None e = e
      by (Some x) e = let n : None ≡ Some x = sym none ∙ m.stay q x e in absurd (cc)

  whole_on_one : {ring : ℕ} (stands : ℕ → List ℕ → P → Type 0) (front rest : Journal) (q : ℕ) (piece : P) → IsRun ring (front ++ rest) → StandsWhole stands front q piece → StandsWhole stands (front ++ rest) q piece
  whole_on_one stands front rest q piece r w = record {
    attached = any_stays (attaches q) front rest w.attached;
    whole = subst (λ (l : List ℕ). stands q l piece) (sym (wanted_stays front rest q r w.attached)) w.whole;
  }

  -- the pieces still represent their queries' chunks, whichever lines are added
  pub pieces_on : {R L : Type 0} (stands : R → ℕ → List ℕ → P → Type 0) (home : ℕ → L) (old new : L → BoardSeat R) (ends : List (Option (End P)))
      → ((p : L) → IsPrefix (old p).seen (new p).seen) → ((p : L) → (new p).root ≡ (old p).root) → ((p : L) → IsRun (new p).root.ring (new p).seen) → AllStand stands home old ends → AllStand stands home new ends
  pieces_on {R} stands home old new ends later root run w = record { each = on } where
    on : (q : ℕ) (piece : P) → at_query ends q ≡ Some (Answered piece) → StandsWhole (over_root stands home new) (seen_of home new q) q piece
    on q piece at =
        let a = old (home q) in
        let b = new (home q) in
        let l = later (home q) in
        let x : StandsWhole (over_root stands home old) b.seen q piece = subst (λ (j : Journal). StandsWhole (over_root stands home old) j q piece) l.1
        (whole_on_one {ring = b.root.ring} (over_root stands home old) a.seen l.0 q piece (subst (IsRun b.root.ring) (sym l.1) (run (home q))) (w.each q piece at)) in
        record {
          attached = x.attached;
          whole = subst (λ r. stands r.root q (wanted b.seen q) piece) (sym (root (home q))) x.whole;
        }

  pub whole_on : {R L : Type 0} {may : ℕ → Type 0} (asks : R → ℕ → ℕ → Type 0) (stands : R → ℕ → List ℕ → P → Type 0) (home : ℕ → L) (old new : L → BoardSeat R) (ends : List (Option (End P)))
      → ((p : L) → Stays asks may (old p) (new p)) → AllStand stands home old ends → AllStand stands home new ends
  whole_on asks stands home old new ends s = pieces_on stands home old new ends (λ p. (s p).later) (λ p. (s p).root) (λ p. (s p).czar.lawful.run.run)

  pub learns_here : {R L : Type 0} {stands : R → ℕ → List ℕ → P → Type 0} {home : ℕ → L} {seats : L → BoardSeat R} (ends : List (Option (End P))) → Learns stands home seats seats ends ends
  learns_here ends = record { more = more_here ends; whole = λ w. w }

  -- where no end was learned
  pub learns_none : {R L : Type 0} {may : ℕ → Type 0} (asks : R → ℕ → ℕ → Type 0) (stands : R → ℕ → List ℕ → P → Type 0) (home : ℕ → L) (old new : L → BoardSeat R) (ends : List (Option (End P)))
      → ((p : L) → Stays asks may (old p) (new p)) → Learns stands home old new ends ends
  learns_none asks stands home old new ends s = record { more = more_here ends; whole = whole_on asks stands home old new ends s }

  -- ends that were learned, and then more of them
  pub learns_on : {R L : Type 0} {stands : R → ℕ → List ℕ → P → Type 0} {home : ℕ → L} {old mid new : L → BoardSeat R} {a b c : List (Option (End P))}
      → Learns stands home old mid a b → Learns stands home mid new b c → Learns stands home old new a c
  learns_on s t = record { more = more_on _ _ _ s.more t.more; whole = λ w. t.whole (s.whole w) }

  pub whole_set : (stands : ℕ → List ℕ → P → Type 0) (S : ℕ → Journal) (ends : List (Option (End P))) (q : ℕ) (end : End P) → 1 ≤ q → q ≤ length ends → IsCollected stands (S q) q end → PiecesStand stands S ends → PiecesStand stands S (slice_set ends (q - 1) (Some end))
  whole_set stands S ends q end h low c w = record {
    each = λ p piece at. ⊎_elim
        (λ pq. let e : Some end ≡ Some (Answered piece) = sym (set_same ends q (Some end) h low) ∙ subst (λ z. at_query (slice_set ends (q - 1) (Some end)) z ≡ Some (Answered piece)) pq at in
        subst (λ z. StandsWhole stands (S z) z piece) (sym pq) (subst (λ x. IsCollected stands (S q) q x) (some_same end (Answered piece) e) c))
        (λ ne. w.each p piece (sym (set_other ends q p (Some end) h ne) ∙ at))
        (cases_eq p q);
  } where
    some_same : (x y : End P) → Some x ≡ Some y → x ≡ y
    some_same x y e = cc

  -- the state of an end that is not a refusal
  known_state : (plan : Plans) (ends : List (Option (End P))) (q : ℕ) (o : Option (End P)) → at_query ends q ≡ o → is_some o ≡ true → Marks plan ends → (plan q ≡ None) ⊎ ((s : QueryState) × (known_in ends q ≡ Some s))
  known_state plan ends q None e h m = absurd (false≢true h)
  known_state plan ends q (Some Refused) e h m = inl (m.refused q e)
  known_state plan ends q (Some (Answered p)) e h m = inr (_, ap state_by e)
  known_state plan ends q (Some Cancelled) e h m = inr (_, ap state_by e)
  known_state plan ends q (Some Spent) e h m = inr (_, ap state_by e)

  -- a query whose end is known was refused, or has ended, at each place
  pub known_at : (here : ℕ → Bool) (plan : Plans) (ends : List (Option (End P))) (q : ℕ) → is_some (at_query ends q) ≡ true → Marks plan ends → (is_some (only here plan q) ≡ false) ⊎ ((s : QueryState) × (only here (known_in ends) q ≡ Some s))
  known_at here plan ends q k m = ⊎_elim
      (λ t. ⊎_elim
      (λ n. inl (ap is_some (here_is here plan q t ∙ n)))
      (λ s. inr (s.0, here_is here (known_in ends) q t ∙ s.1))
      (known_state plan ends q (at_query ends q) refl k m))
      (λ f. inl (ap is_some (else_is here plan q f)))
      (cases_Bool (here q))

  pub goes_wait : {R L : Type 0} (room : Type 0) (has : L → ℕ → Bool) (plan : Plans) (done : List Step) (seats : L → BoardSeat R) (ends : List (Option (End P))) (q : ℕ) (r : Outcome) → list_any (is_query_of q) done ≡ true → (r ≡ Went → is_some (at_query ends q) ≡ true) → Marks plan ends
      → Goes (DrivingAll has plan done seats (known_in ends)) ⊥ seats r → Goes (GoingAll has plan (done ++ Wait q ∷ []) seats (known_in ends)) room seats r
  goes_wait room has plan done seats ends q Went started known m d = λ p.
      going_waited (only (has p) plan) done (seats p).seen (only (has p) (known_in ends)) q
      (wait_known (only (has p) plan) done (seats p).seen (only (has p) (known_in ends)) q (known_at (has p) plan ends q (known refl) m) started (d p))
  goes_wait room has plan done seats ends q Odd started known m d = d
  goes_wait room has plan done seats ends q Memory started known m d = absurd d

  -- the query of a query line: what is planned for it
  pub ready_none : (plan : Plans) (done : List Step) (plans : List (Option (Planned P))) (q : ℕ) → Ready plan done plans → list_any (is_query_of q) done ≡ false → at_query plans q ≡ None → plan q ≡ None
  ready_none plan done plans q r free n = sym (r.ready q free) ∙ ap (λ (o : Option (Planned P)). option_map (λ p. p.chunks) o) n

  pub ready_some : (plan : Plans) (done : List Step) (plans : List (Option (Planned P))) (q : ℕ) (p : Planned P) → Ready plan done plans → list_any (is_query_of q) done ≡ false → at_query plans q ≡ Some p → plan q ≡ Some p.chunks
  ready_some plan done plans q p r free n = sym (r.ready q free) ∙ ap (λ (o : Option (Planned P)). option_map (λ p. p.chunks) o) n

  pub ready_set : (plan : Plans) (done : List Step) (plans : List (Option (Planned P))) (q : ℕ) (span : Span) (x : Option (Planned P)) → 1 ≤ q → Ready plan done plans → Ready plan (done ++ Query q span ∷ []) (slice_set plans (q - 1) x)
  ready_set plan done plans q span x h r = record {
    ready = λ p free.
        let parts = or_parts (list_any (is_query_of p) done) _ (sym (any_append (is_query_of p) done (Query q span ∷ [])) ∙ free) in
        let ne : p ≡ q → ⊥ = λ e. both_ways _ (or_parts (q == p) false parts.1).0 (eq-eqb q p (sym e)) in
        ap (λ (o : Option (Planned P)). option_map (λ p. p.chunks) o) (set_other plans q p x h ne) ∙ r.ready p parts.0;
  }

  set_none : (plans : List (Option (Planned P))) (q p : ℕ) (x : Planned P) → 1 ≤ q → q ≤ length plans → at_query (slice_set plans (q - 1) None) p ≡ Some x → at_query plans p ≡ Some x
  set_none plans q p x h low at = ⊎_elim
      (λ pq. let n : None ≡ Some x = sym (set_same plans q None h low) ∙ subst (λ z. at_query (slice_set plans (q - 1) None) z ≡ Some x) pq at in absurd (cc))
      (λ ne. sym (set_other plans q p None h ne) ∙ at)
      (cases_eq p q)

  pub fit_set : {R L : Type 0} (stands : R → ℕ → List ℕ → P → Type 0) (asks : R → ℕ → ℕ → Type 0) (suits : ℕ → List ℕ → Type 0) (seats : L → BoardSeat R) (plans : List (Option (Planned P))) (q : ℕ) → 1 ≤ q → q ≤ length plans
      → AllFit stands asks suits seats plans → AllFit stands asks suits seats (slice_set plans (q - 1) None)
  fit_set stands asks suits seats plans q h low f = record {
    fit = λ l. record { each = λ p x at. (f.fit l).each p x (set_none plans q p x h low at) };
    suit = λ p x at. f.suit p x (set_none plans q p x h low at);
  }

  pub fit_on : {R L : Type 0} {may : ℕ → Type 0} (stands : R → ℕ → List ℕ → P → Type 0) (asks : R → ℕ → ℕ → Type 0) (suits : ℕ → List ℕ → Type 0) (old new : L → BoardSeat R) (plans : List (Option (Planned P)))
      → ((p : L) → Stays asks may (old p) (new p)) → AllFit stands asks suits old plans → AllFit stands asks suits new plans
  fit_on stands asks suits old new plans s f = record {
    fit = λ p. subst (λ r. PlansFit stands asks r.ring r.root plans) (sym (s p).root) (f.fit p);
    suit = f.suit;
  }
