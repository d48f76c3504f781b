-- Once all seats are joined: nothing is foreign, all is delivered, and what the czar knew are promises.
use Rattle.std.proofs.Common.{◌≡◌, ℕ, ◌+◌, ◌<◌, ◌≤◌, ◌==◌, nat_lt, List, [], ◌∷◌, ◌++◌, length, Bool, true, false, cond, Option, Some, None, is_some, ◌⊎◌, ⊎_elim, refl, sym, ◌∙◌, ap, subst, arith, eq-eqb, lt-ltb, All}
use Rattle.std.specs.List.{list_any, list_all}
use Rattle.std.proofs.lemmas.Bool.{cases_Bool, and_from, cond-true, cond-false, false≢true, both_ways}
use Rattle.scan_rules.specs.declared.journal_line.JournalLine.{JournalLine}
use Rattle.scan_rules.specs.declared.journal_line.JournalLine.TheVariants.{Close}
use Rattle.scan_rules.specs.Lines.{seat_of}
use Rattle.scan_rules.specs.Queries.{Journal, QueryState}
use Rattle.scan_rules.specs.Runs.{IsRun, IsAsked}
use Rattle.scan_rules.proofs.Runs.{no_lines_run}
use Rattle.scan_rules.proofs.Lists.{any_finds}
use Rattle.atomic_table.specs.Seated.{TableId}
use Rattle.scan_board.specs.Calls.{BoardSeat}
use Rattle.scan_worker.specs.Working.{is_work, AllDelivered}
use Rattle.session_script.specs.declared.step.Step.{Step}
use Rattle.session_script.specs.Laws.{NumberedFrom}
use Rattle.session_script.specs.Scripts.{query_count}
use Rattle.session_rules.specs.Ends.{asks as is_query_of}
use Rattle.scan_session.specs.Plans.{Plans, AllRunAtOnce}
use Rattle.scan_session.specs.Quiet.{is_alone}
use Rattle.scan_session.specs.Driven.{has_foreign}
use Rattle.scan_session.specs.Drove.{Drove}
use Rattle.scan_session.specs.Seats.{of_seat, IsCzar}
use Rattle.scan_session.specs.Goes.{IsScript, number_of}
use Rattle.scan_session.specs.Places.{only, AreClean, AreCzars}
use Rattle.scan_session.specs.KnownEnds.{at_query, known_in, state_by, Marks, AllKnown}
use Rattle.scan_session.specs.Crews.{Closed, Leaves, KeepsWork, Manned, Promises, TellsStates}
use Rattle.scan_session.specs.declared.end.End.{End}
use Rattle.scan_session.specs.declared.end.End.TheVariants.{Answered, Refused, Cancelled, Spent}
use Rattle.scan_session.specs.declared.end.Outcome.{Outcome}
use Rattle.scan_session.specs.declared.end.Outcome.TheVariants.{Went, Memory, Odd}
use Rattle.scan_session.proofs.Others.{no_foreign, all_delivered, one_seat_alone}
use Rattle.scan_session.proofs.Keeping.{drove, find_query}
use Rattle.scan_session.proofs.Manning.{nothing_delivered}

rest_none : (n : ℕ) (l : JournalLine) (J : Journal) → of_seat n (l ∷ J) ≡ [] → of_seat n J ≡ []
rest_none n l J e = ⊎_elim
    (λ t. let w : l ∷ of_seat n J ≡ [] = sym (cond-true (seat_of l == n) _ _ t) ∙ e in absurd (cc))
    (λ f. sym (cond-false (seat_of l == n) _ _ f) ∙ e)
    (cases_Bool (seat_of l == n))

below_or : (m n : ℕ) → (m < n) ⊎ (n ≤ m)
below_or m n = grind arith

-- where no line carries a number from a bound on, all carry one below it
pub all_low : (made : ℕ) (J : Journal) → ((n : ℕ) → made ≤ n → of_seat n J ≡ []) → list_all (λ l. nat_lt (seat_of l) made) J ≡ true
all_low made [] above = refl
all_low made (l ∷ J) above = ⊎_elim
    (λ low. and_from _ _ (lt-ltb (seat_of l) made low) (all_low made J (λ n h. rest_none n l J (above n h))))
    (λ high. let w : l ∷ of_seat (seat_of l) J ≡ [] = sym (cond-true (seat_of l == seat_of l) _ _ (eq-eqb (seat_of l) (seat_of l) refl)) ∙ above (seat_of l) high in absurd (cc))
    (below_or (seat_of l) made)

module _ {R : Type 0} (asks : R → ℕ → ℕ → Type 0) (workers : ℕ) (old new : BoardSeat R) (one : old.made ≡ 1) (m : Manned asks old new) (made : new.made ≡ old.made + workers) where
  low_all : list_all (λ l. nat_lt (seat_of l) new.made) new.seen ≡ true
  low_all = all_low new.made new.seen (m.known.above m.first)

  of_worker : (n : ℕ) → 1 ≤ n → n < new.made → KeepsWork new.ended n
  of_worker n h low = m.crew n (omega (arith, one, h)) low

  pub clean : has_foreign new.seen ≡ false
  clean = no_foreign new.made new.seen low_all (λ n h low.
      let k = of_worker n h low in
      subst (λ (l : Journal). list_all is_work l ≡ true) (sym (m.known.ended n k.lines k.kept).1) k.work)

  zero_or : (n : ℕ) → (n ≡ 0) ⊎ (1 ≤ n)
  zero_or n = grind arith

  delivered : AllDelivered new.seen
  delivered = all_delivered new.made new.seen low_all (λ n low. ⊎_elim
      (λ z. let mine : of_seat 0 new.seen ≡ new.mine = subst (λ k. of_seat k new.seen ≡ new.mine) m.first m.known.mine in
      subst (λ k. AllDelivered (of_seat k new.seen)) (sym z) (subst AllDelivered (sym mine) m.delivered))
      (λ h. let k = of_worker n h low in subst AllDelivered (sym (m.known.ended n k.lines k.kept).1) k.delivered)
      (zero_or n))

  -- with no workers the czar is alone
  alone : workers ≡ 0 → is_alone new.seen ≡ true
  alone none =
      let few : new.made ≡ 1 = omega (arith, none, one, made) in
      one_seat_alone new.seen (subst (λ n. list_all (λ l. nat_lt (seat_of l) n) new.seen ≡ true) few low_all)

  -- at this board
  pub drove_at : {Room : Type 0} (plan : Plans) (steps : List Step) (ends : ℕ → Option QueryState) → NumberedFrom 0 steps → (query_count steps ≤ 64 → Room)
      → ((q : ℕ) → is_some (plan q) ≡ true → list_any (is_query_of q) steps ≡ true → is_some (ends q) ≡ true) → Closed Room plan steps new.seen ends → Drove workers plan steps new.seen × TellsStates new.seen ends
  drove_at plan steps ends numbered room all c =
      subst (λ (j : Journal). Drove workers plan steps j × TellsStates j ends) (sym c.is)
      (drove plan workers steps c.before c.rest ends numbered (subst (IsRun new.root.ring) c.is m.lawful.run.run)
      (subst (λ (j : Journal). of_seat 0 j ≡ of_seat 0 (c.before ++ Close 0 ∷ [])) c.is c.own)
      (subst (λ (j : Journal). has_foreign j ≡ false) c.is clean) (subst AllDelivered c.is delivered)
      (λ none. subst (λ (j : Journal). is_alone j ≡ true) c.is (alone none)) room all c.drives)

-- the queries of a board: what is known of all is known of these
some_here : {X Y : Type 0} (b : Bool) (o : Option X) (e : Option Y) → (is_some o ≡ true → is_some e ≡ true) → is_some (cond b o None) ≡ true → is_some (cond b e None) ≡ true
some_here true o e all h = all h
some_here false o e all h = absurd (false≢true h)

module _ {R L : Type 0} (asks : R → ℕ → ℕ → Type 0) (workers : ℕ) (has : L → ℕ → Bool) (old new : L → BoardSeat R) (one : (p : L) → (old p).made ≡ 1) (m : (p : L) → Manned asks (old p) (new p)) (made : (p : L) → (new p).made ≡ (old p).made + workers) where
  all_clean : AreClean new
  all_clean = record { each = λ p. clean asks workers (old p) (new p) (one p) (m p) (made p) }

  pub promises : (plan : Plans) (steps : List Step) (ends : ℕ → Option QueryState) (r : Outcome) → NumberedFrom 0 steps → (query_count steps ≤ 64 → AllRunAtOnce plan)
      → (r ≡ Went → (q : ℕ) → is_some (plan q) ≡ true → list_any (is_query_of q) steps ≡ true → is_some (ends q) ≡ true) → Leaves has plan steps new ends r → Promises workers has plan steps new ends r
  promises plan steps ends Memory numbered room all l = l
  promises plan steps ends Odd numbered room all l = both_ways _ (all_clean.each l.0) l.1
  promises plan steps ends Went numbered room all l = λ p. drove_at asks workers (old p) (new p) (one p) (m p) (made p) (only (has p) plan) steps (only (has p) ends) numbered room
      (λ q planned asked. some_here (has p q) (plan q) (ends q) (λ k. all refl q k asked) planned) (l all_clean p)

-- each planned query that a line asks has an end, where all ends are known
pub all_planned : {P : Type 0} (plan : Plans) (steps : List Step) (ends : List (Option (End P))) → IsScript (length ends) steps → Marks plan ends → AllKnown ends → (q : ℕ) → is_some (plan q) ≡ true → list_any (is_query_of q) steps ≡ true → is_some (known_in ends q) ≡ true
all_planned {P} plan steps ends s m k q planned asked =
    let f = any_finds (is_query_of q) steps asked in
    let found = find_query q f.1 f.4 in
    let from : 1 ≤ q = subst (λ (x : Step). 1 ≤ number_of x) found.1 (s.from_1 f.0 f.1 f.2 f.3) in
    let low : q ≤ length ends = subst (λ (x : Step). number_of x ≤ length ends) found.1 (s.low f.0 f.1 f.2 f.3) in
    by (at_query ends q) refl (k.each q from low) where
      by : (o : Option (End P)) → at_query ends q ≡ o → is_some (at_query ends q) ≡ true → is_some (known_in ends q) ≡ true
      by None e h = absurd (false≢true (sym (ap is_some e) ∙ h))
      by (Some Refused) e h = absurd (false≢true (sym (ap is_some (m.refused q e)) ∙ planned))
      by (Some (Answered p)) e h = ap (λ (o : Option (End P)). is_some (state_by o)) e
      by (Some Cancelled) e h = ap (λ (o : Option (End P)). is_some (state_by o)) e
      by (Some Spent) e h = ap (λ (o : Option (End P)). is_some (state_by o)) e

-- the seat from which a session starts
first_czar : {R : Type 0} (asks : R → ℕ → ℕ → Type 0) (seat : BoardSeat R) → seat.number ≡ 0 → seat.seen ≡ [] → seat.mine ≡ [] → seat.root.ring ≤ 16384 → IsCzar asks seat
first_czar {R} asks seat number seen mine small = record {
  first = number;
  own = ap (of_seat 0) seen ∙ sym mine;
  lawful = record {
    small = small;
    run = record {
      run = subst (IsRun seat.root.ring) (sym seen) (no_lines_run seat.root.ring);
      asked = subst (λ (l : Journal). All (IsAsked (asks seat.root.root)) l) (sym seen) (λ i d h. absurd (omega (arith, h)));
    };
  };
  delivered = subst AllDelivered (sym mine) nothing_delivered;
}

pub first_czars : {R L : Type 0} (asks : R → ℕ → ℕ → Type 0) (locks : L → TableId) (root : R) (seats : L → BoardSeat R) → ((p : L) → (seats p).turn ≡ locks p)
    → ((p : L) → ((seats p).number ≡ 0) × ((seats p).seen ≡ []) × ((seats p).mine ≡ []) × ((seats p).made ≡ 1)) → ((p : L) → (seats p).root.ring ≤ 16384) → ((p : L) → root ≡ (seats p).root.root)
    → AreCzars asks locks root seats
first_czars asks locks root seats own first small engine = record {
  own = own;
  czar = λ p. let f = first p in first_czar asks (seats p) f.0 f.1 f.2 (small p);
  engine = engine;
}
