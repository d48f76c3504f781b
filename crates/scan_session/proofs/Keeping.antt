-- Each line of the script, and each answer of the board, keeps what the czar knows; and what he knows in the end.
use Rattle.std.proofs.Common.{◌≡◌, ℕ, ◌≤◌, ◌==◌, List, [], ◌∷◌, ◌++◌, true, false, Option, Some, None, is_some, ◌⊎◌, ⊎_elim, refl, sym, ◌∙◌, ap, subst, arith, append-nil, append_assoc, count_by, eq-eqb, eqb-true}
use Rattle.std.specs.List.{list_any, list_all}
use Rattle.std.proofs.lemmas.Bool.{and_parts, or_cases, cases_Bool, or_left, true_from_ne_false, false_from_ne_true, false≢true, both_ways, not-true, not_from_true, cond-true, cond-false, and_left, and_right}
use Rattle.scan_rules.specs.declared.journal_line.JournalLine.{JournalLine}
use Rattle.scan_rules.specs.declared.journal_line.JournalLine.TheVariants.{Attach, Cancel, Collect, Close}
use Rattle.scan_rules.specs.Lines.{attaches, cancels, collects, closes}
use Rattle.scan_rules.specs.Queries.{Journal, QueryState, state_of, is_attached, is_cancelled, is_collected, is_closed, is_running}
use Rattle.scan_rules.specs.Runs.{IsRun}
use Rattle.scan_rules.specs.Ends.{HasEnded}
use Rattle.scan_rules.proofs.Lists.{any_stays, any_later, any_cases, any_front, any_none, any_finds, any_there, some_counted, flat_push, flat_none}
use Rattle.scan_rules.proofs.Runs.{front_runs, follows_here}
use Rattle.scan_rules.proofs.Lists.{cut_push}
use Rattle.scan_rules.proofs.Ends.{ended_stays, ended_now}
use Rattle.scan_rules.proofs.Lengths.{collected_once}
use Rattle.session_script.specs.declared.step.Step.{Step}
use Rattle.session_script.specs.declared.step.Step.TheVariants.{Query, Wait, Cancel as CancelStep}
use Rattle.session_script.specs.Laws.{NumberedFrom}
use Rattle.session_script.specs.Scripts.{query_count}
use Rattle.session_rules.specs.Ends.{asks, waits_for, has_cancel}
use Rattle.session_rules.proofs.Cancels.{cancel_stands, prompt_is_a_split}
use Rattle.sql_token.specs.declared.token.Span.{Span}
use Rattle.scan_session.specs.Plans.{Plans, settles, with_chunks, planned_at, planned, MayCancel}
use Rattle.scan_session.specs.Quiet.{is_alone, Pinned, Untouched}
use Rattle.scan_session.specs.Driven.{is_foreign, has_foreign, attached_by, Settled, Driven, Driving, Going}
use Rattle.scan_session.specs.Drove.{Drove}
use Rattle.scan_session.specs.Crews.{TellsStates}
use Rattle.scan_session.specs.KnownEnds.{with_end}
use Rattle.scan_worker.specs.Working.{is_work, AllDelivered}
use Rattle.scan_session.specs.Seats.{of_seat}
use Rattle.scan_session.proofs.Others.{cut_append, others_work, work_same, alone_front, alone_same}
use Rattle.scan_session.proofs.Quiet.{planned_attached, attached_planned, nothing_untouched, nothing_pinned, pinned_on, pinned_step, pinned_refused, pinned_now, pinned_late, untouched_on, untouched_started, untouched_refused, untouched_waited, untouched_cancel}

-- a front cannot hold what its end lacks
pub clean_front : (H more : Journal) → has_foreign (H ++ more) ≡ false → has_foreign H ≡ false
clean_front H more f = any_front is_foreign H more f

-- a settled query stays settled, whatever comes
pub settled_on : {ring : ℕ} (S more : Journal) (q : ℕ) (later : List Step) → IsRun ring (S ++ more) → Settled S q later → Settled (S ++ more) q later
settled_on {ring} S more q later r s =
    let o = ended_now S q s.attached s.stopped in
    let n = ended_stays S more q (state_of S q) r o in
    record {
      attached = n.attached;
      stopped = n.stopped;
      before = λ H seat p cs rest e l. ⊎_elim
          (λ a. s.before H seat p cs a.0 a.1 l)
          (λ b. let line : JournalLine = Attach seat p cs in
          let w : S ++ more ≡ (S ++ b.0) ++ line ∷ rest = ap (λ (j : Journal). S ++ j) b.2 ∙ sym (append_assoc S b.0 (line ∷ rest)) in
          let run : IsRun ring (S ++ b.0) = front_runs (S ++ b.0) (line ∷ rest) (subst (IsRun ring) w r) in
          subst (λ (j : Journal). is_running j q ≡ false) (sym b.1) (ended_stays S b.0 q (state_of S q) run o).stopped)
          (cut_append S more H (Attach seat p cs) rest e);
    }

-- with a later line of the script that attaches nothing which is attached
later_step : (S : Journal) (q : ℕ) (b : List Step) (step : Step) → ((r : ℕ) → is_attached S r ≡ true → asks r step ≡ false) → Settled S q b → Settled S q (b ++ step ∷ [])
later_step S q b step free s = record {
  attached = s.attached;
  stopped = s.stopped;
  before = λ H seat r cs rest e l. ⊎_elim
      (λ t. s.before H seat r cs rest e t)
      (λ t. absurd (both_ways _ (free r (ap (list_any (attaches r)) e ∙ any_there (attaches r) H (Attach seat r cs) rest (eq-eqb r r refl))) (⊎_elim (λ u. u) (λ u. absurd (false≢true u)) (or_cases (asks r step) false t))))
      (any_cases (asks r) b (step ∷ []) l);
}

-- with an Attach that a later line of the script makes
later_attach : (ring : ℕ) (S : Journal) (q seat p : ℕ) (span : Span) (cs : List ℕ) (b : List Step) → IsRun ring (S ++ Attach seat p cs ∷ []) → Settled S q b → Settled (S ++ Attach seat p cs ∷ []) q (b ++ Query p span ∷ [])
later_attach ring S q seat p span cs b r s =
    let line : JournalLine = Attach seat p cs in
    let m = follows_here S line [] r in
    let on = settled_on S (line ∷ []) q b r s in
    record {
      attached = on.attached;
      stopped = on.stopped;
      before = λ H seat' r' cs' rest e l. ⊎_elim
          (λ a. subst (λ (j : Journal). is_running j q ≡ false) (sym a.0) s.stopped)
          (λ a. ⊎_elim
          (λ t. s.before H seat' r' cs' a.0 a.1 t)
          (λ t. let pe : p ≡ r' = eqb-true p r' (⊎_elim (λ u. u) (λ u. absurd (false≢true u)) (or_cases (p == r') false t)) in
          absurd (both_ways _ m.fresh (subst (λ z. is_attached S z ≡ true) (sym pe) (ap (list_any (attaches r')) a.1 ∙ any_there (attaches r') H (Attach seat' r' cs') a.0 (eq-eqb r' r' refl)))))
          (any_cases (asks r') b (Query p span ∷ []) l))
          (cut_push S line H (Attach seat' r' cs') rest e);
    }

pub may_cancel_more : (done : List Step) (step : Step) (q : ℕ) → MayCancel done q → MayCancel (done ++ step ∷ []) q
may_cancel_more done step q m = record {
  before = m.before;
  span = m.span;
  between = m.between;
  behind = m.behind ++ step ∷ [];
  cut = ap (λ (l : List Step). l ++ step ∷ []) m.cut ∙ (append_assoc m.before (Query q m.span ∷ (m.between ++ CancelStep q ∷ m.behind)) (step ∷ []) ∙ ap (λ (l : List Step). m.before ++ Query q m.span ∷ l) (append_assoc m.between (CancelStep q ∷ m.behind) (step ∷ [])));
  unwaited = m.unwaited;
}

pub find_query : (q : ℕ) (step : Step) → asks q step ≡ true → (span : Span) × (step ≡ Query q span)
find_query q (Query p span) h = (span, ap (λ n. Query n span) (eqb-true p q h))
find_query q (Wait p) h = absurd (false≢true h)
find_query q (CancelStep p) h = absurd (false≢true h)

find_wait : (q : ℕ) (step : Step) → waits_for q step ≡ true → settles q step ≡ true
find_wait q (Query p span) h = h
find_wait q (Wait p) h = h
find_wait q (CancelStep p) h = absurd (false≢true h)

cancel_is_not_query : (p q : ℕ) (span : Span) → CancelStep p ≡ Query q span → ⊥
cancel_is_not_query p q span e = cc

cancel_is_not_wait : (p q : ℕ) → CancelStep p ≡ Wait q → ⊥
cancel_is_not_wait p q e = cc

waited_pinned : (plan : Plans) (done : List Step) (H : Journal) (q : ℕ) → Pinned plan done H → Pinned plan (done ++ Wait q ∷ []) H
waited_pinned plan done H q = pinned_step plan done (Wait q) H (λ k w. cancel_is_not_wait k q w)

-- a cancel that may take effect comes in time
in_time : (steps : List Step) (q : ℕ) → NumberedFrom 0 steps → MayCancel steps q → has_cancel steps q ≡ true
in_time steps q n m = subst (λ (s : List Step). has_cancel s q ≡ true) (sym m.cut) (cancel_stands m.before m.between m.behind q m.span (subst (NumberedFrom 0) m.cut n) m.unwaited)

module _ {Room : Type 0} (plan : Plans) where
  -- what others took and delivered, or the czar himself, changes nothing
  pub carry : {ring : ℕ} → (done : List Step) (S more : Journal) (ends : ℕ → Option QueryState) → IsRun ring (S ++ more) → list_all is_work more ≡ true → Driven Room plan done S ends → Driven Room plan done (S ++ more) ends
  carry {ring} done S more ends r w d =
      let same = work_same S more w in
      record {
        attached = same.attached ∙ d.attached;
        open_still = same.closed ∙ d.open_still;
        collected = λ q. same.collected q ∙ d.collected q;
        ended = λ q s e. ended_stays S more q s r (d.ended q s e);
        cancelled = λ q h. d.cancelled q (sym (same.cancelled q) ∙ h);
        settled = λ a step b q e h k. settled_on S more q b r (d.settled a step b q e h k);
        pinned = λ alone room. pinned_on plan done S more (d.pinned (alone_front S more alone) room);
      }

  -- the past on which a call answers: what was seen, and what others did since
  pub driving_on : {ring : ℕ} → (done : List Step) (S more : Journal) (ends : ℕ → Option QueryState) → IsRun ring (S ++ more) → of_seat 0 (S ++ more) ≡ of_seat 0 S → Driving Room plan done S ends → Driving Room plan done (S ++ more) ends
  driving_on {ring} done S more ends r own d f = carry done S more ends r (others_work S more own f) (d (clean_front S more f))

  -- a query line: attached
  pub start_planned : {ring : ℕ} → (done : List Step) (H : Journal) (ends : ℕ → Option QueryState) (q : ℕ) (span : Span) (cs : List ℕ) → IsRun ring (H ++ Attach 0 q cs ∷ []) → plan q ≡ Some cs → Driving Room plan done H ends → Driving Room plan (done ++ Query q span ∷ []) (H ++ Attach 0 q cs ∷ []) ends
  start_planned {ring} done H ends q span cs r p dr f =
      let line : JournalLine = Attach 0 q cs in
      let d = dr (clean_front H (line ∷ []) f) in
      record {
        attached = flat_push attached_by H line ∙ (ap (λ (l : List (ℕ × List ℕ)). l ++ (q, cs) ∷ []) d.attached ∙ sym (flat_push (planned_at plan) done (Query q span) ∙ ap (λ (o : Option (List ℕ)). planned plan done ++ with_chunks q o) p));
        open_still = any_none closes H line refl ∙ d.open_still;
        collected = λ k. any_none (collects k) H line refl ∙ d.collected k;
        ended = λ k s e. ended_stays H (line ∷ []) k s r (d.ended k s e);
        cancelled = λ k h. may_cancel_more done (Query q span) k (d.cancelled k (sym (any_none (cancels k) H line refl) ∙ h));
        settled = λ a step b k e h m. ⊎_elim
            (λ l. absurd (false≢true (subst (λ z. settles k z ≡ true) l.1 h)))
            (λ l. subst (Settled (H ++ line ∷ []) k) (sym l.2) (later_attach ring H k 0 q span cs l.0 r (d.settled a step l.0 k l.1 h m)))
            (cut_push done (Query q span) a step b e);
        pinned = λ alone room. pinned_on plan (done ++ Query q span ∷ []) H (line ∷ []) (pinned_step plan done (Query q span) H (λ k w. cancel_is_not_query k q span w) (d.pinned (alone_front H (line ∷ []) alone) room));
      }

  -- a query line: refused
  pub start_refused : (done : List Step) (H : Journal) (ends : ℕ → Option QueryState) (q : ℕ) (span : Span) → plan q ≡ None → Driving Room plan done H ends → Driving Room plan (done ++ Query q span ∷ []) H ends
  start_refused done H ends q span p dr f =
      let d = dr f in
      record {
        attached = d.attached ∙ sym (flat_push (planned_at plan) done (Query q span) ∙ (ap (λ (o : Option (List ℕ)). planned plan done ++ with_chunks q o) p ∙ append-nil _));
        open_still = d.open_still;
        collected = d.collected;
        ended = d.ended;
        cancelled = λ k h. may_cancel_more done (Query q span) k (d.cancelled k h);
        settled = λ a step b k e h m. ⊎_elim
            (λ l. absurd (false≢true (subst (λ z. settles k z ≡ true) l.1 h)))
            (λ l. subst (Settled H k) (sym l.2) (later_step H k l.0 (Query q span) (λ t a. false_from_ne_true _ (λ s. let same : q ≡ t = eqb-true q t s in absurd (false≢true (sym (ap is_some p) ∙ subst (λ z. is_some (plan z) ≡ true) (sym same) (attached_planned plan done H t d.attached a).1)))) (d.settled a step l.0 k l.1 h m)))
            (cut_push done (Query q span) a step b e);
        pinned = λ alone room. pinned_step plan done (Query q span) H (λ k w. cancel_is_not_query k q span w) (d.pinned alone room);
      }

  -- a line that settles q, once q does not run
  settle : (done : List Step) (step : Step) (H : Journal) (ends : ℕ → Option QueryState) (q : ℕ) → ((k : ℕ) → asks k step ≡ false) → ((k : ℕ) → settles k step ≡ true → k ≡ q) → planned_at plan step ≡ [] → list_any (asks q) done ≡ true → is_running H q ≡ false → (is_alone H ≡ true → Room → Pinned plan (done ++ step ∷ []) H) → Driven Room plan done H ends → Driven Room plan (done ++ step ∷ []) H ends
  settle done step H ends q free only none started n pinned d =
      record {
        attached = d.attached ∙ sym (flat_none (planned_at plan) done step none);
        open_still = d.open_still;
        collected = d.collected;
        ended = d.ended;
        cancelled = λ k h. may_cancel_more done step k (d.cancelled k h);
        settled = λ a s b k e h m. ⊎_elim
            (λ l. let kq : k ≡ q = only k (subst (λ z. settles k z ≡ true) l.1 h) in
            subst (Settled H k) (sym l.2) (record {
              attached = planned_attached plan done H k d.attached (subst (λ z. list_any (asks z) done ≡ true) (sym kq) started) m;
              stopped = subst (λ z. is_running H z ≡ false) (sym kq) n;
              before = λ _ _ _ _ _ _ x. absurd (false≢true x);
            }))
            (λ l. subst (Settled H k) (sym l.2) (later_step H k l.0 step (λ t _. free t) (d.settled a s l.0 k l.1 h m)))
            (cut_push done step a s b e);
        pinned = pinned;
      }

  -- a line about a query that is refused
  pub pass : (done : List Step) (step : Step) (H : Journal) (ends : ℕ → Option QueryState) (q : ℕ) → ((k : ℕ) → asks k step ≡ false) → ((k : ℕ) → settles k step ≡ true → k ≡ q) → planned_at plan step ≡ [] → is_some (plan q) ≡ false → (is_alone H ≡ true → Room → Pinned plan (done ++ step ∷ []) H) → Driven Room plan done H ends → Driven Room plan (done ++ step ∷ []) H ends
  pass done step H ends q free only none refused pinned d =
      record {
        attached = d.attached ∙ sym (flat_none (planned_at plan) done step none);
        open_still = d.open_still;
        collected = d.collected;
        ended = d.ended;
        cancelled = λ k h. may_cancel_more done step k (d.cancelled k h);
        settled = λ a s b k e h m. ⊎_elim
            (λ l. let kq : k ≡ q = only k (subst (λ z. settles k z ≡ true) l.1 h) in absurd (both_ways _ refused (subst (λ z. is_some (plan z) ≡ true) kq m)))
            (λ l. subst (Settled H k) (sym l.2) (later_step H k l.0 step (λ t _. free t) (d.settled a s l.0 k l.1 h m)))
            (cut_push done step a s b e);
        pinned = pinned;
      }

  -- a wait line, once the query does not run
  pub waited : (done : List Step) (H : Journal) (ends : ℕ → Option QueryState) (q : ℕ) → list_any (asks q) done ≡ true → is_running H q ≡ false → Driving Room plan done H ends → Driving Room plan (done ++ Wait q ∷ []) H ends
  waited done H ends q started n dr f =
      let d = dr f in
      settle done (Wait q) H ends q (λ k. refl) (λ k h. sym (eqb-true q k h)) refl started n (λ alone room. waited_pinned plan done H q (d.pinned alone room)) d

  -- a cancel line that came too late
  pub stopped_late : {ring : ℕ} → (done : List Step) (H : Journal) (ends : ℕ → Option QueryState) (q : ℕ) → IsRun ring H → list_any (asks q) done ≡ true → is_running H q ≡ false → Going Room plan done H ends → Going Room plan (done ++ CancelStep q ∷ []) H ends
  stopped_late {ring} done H ends q r started n g = record {
    drives = λ f.
        let d = g.drives f in
        settle done (CancelStep q) H ends q (λ k. refl) (λ k h. sym (eqb-true q k h)) refl started n (λ alone room. pinned_late plan done H q r d.attached n (g.calm alone room) (d.pinned alone room)) d;
    calm = λ alone room. untouched_cancel plan done H q (g.calm alone room);
  }

  -- a cancel line of a query that is refused
  pub stopped_refused : (done : List Step) (H : Journal) (ends : ℕ → Option QueryState) (q : ℕ) → is_some (plan q) ≡ false → Going Room plan done H ends → Going Room plan (done ++ CancelStep q ∷ []) H ends
  stopped_refused done H ends q none g = record {
    drives = λ f.
        let d = g.drives f in
        pass done (CancelStep q) H ends q (λ k. refl) (λ k h. sym (eqb-true q k h)) refl none (λ alone room. pinned_refused plan done H q none (d.pinned alone room)) d;
    calm = λ alone room. untouched_cancel plan done H q (g.calm alone room);
  }

  -- a wait line of a query that is refused
  pub waited_refused : (done : List Step) (H : Journal) (ends : ℕ → Option QueryState) (q : ℕ) → is_some (plan q) ≡ false → Driving Room plan done H ends → Driving Room plan (done ++ Wait q ∷ []) H ends
  waited_refused done H ends q none dr f =
      let d = dr f in
      pass done (Wait q) H ends q (λ k. refl) (λ k h. sym (eqb-true q k h)) refl none (λ alone room. waited_pinned plan done H q (d.pinned alone room)) d

  -- a query that runs has no wait line behind it, so a cancel may take effect
  pub runs_unwaited : (done : List Step) (H : Journal) (ends : ℕ → Option QueryState) (q : ℕ) → Driven Room plan done H ends → list_any (asks q) done ≡ true → is_some (plan q) ≡ true → is_running H q ≡ true → MayCancel (done ++ CancelStep q ∷ []) q
  runs_unwaited done H ends q d started k n =
      let f = any_finds (asks q) done started in
      let a : List Step = f.0 in
      let b : List Step = f.2 in
      let found = find_query q f.1 f.4 in
      let span : Span = found.0 in
      let here : done ≡ a ++ Query q span ∷ b = f.3 ∙ ap (λ (s : Step). a ++ s ∷ b) found.1 in
      record {
        before = a;
        span = span;
        between = b;
        behind = [];
        cut = ap (λ (l : List Step). l ++ CancelStep q ∷ []) here ∙ append_assoc a (Query q span ∷ b) (CancelStep q ∷ []);
        unwaited = false_from_ne_true _ (λ w. let g = any_finds (waits_for q) b w in
            let there : done ≡ (a ++ Query q span ∷ g.0) ++ g.1 ∷ g.2 = here ∙ (ap (λ (l : List Step). a ++ Query q span ∷ l) g.3 ∙ sym (append_assoc a (Query q span ∷ g.0) (g.1 ∷ g.2))) in
            both_ways _ (d.settled (a ++ Query q span ∷ g.0) g.1 g.2 q there (find_wait q g.1 g.4) k).stopped n);
      }

  -- a cancel line that takes effect
  pub stopped_now : {ring : ℕ} → (done : List Step) (H : Journal) (ends : ℕ → Option QueryState) (q : ℕ) → IsRun ring (H ++ Cancel 0 q ∷ []) → list_any (asks q) done ≡ true → is_some (plan q) ≡ true → Driving Room plan done H ends → Driving Room plan (done ++ CancelStep q ∷ []) (H ++ Cancel 0 q ∷ []) ends
  stopped_now {ring} done H ends q r started k dr f =
      let line : JournalLine = Cancel 0 q in
      let d = dr (clean_front H (line ∷ []) f) in
      let n : is_running H q ≡ true = follows_here H line [] r in
      let c : is_cancelled (H ++ line ∷ []) q ≡ true = any_there (cancels q) H line [] (eq-eqb q q refl) in
      let after : is_running (H ++ line ∷ []) q ≡ false = and_left _ _ (and_right _ _ (and_left _ _ (not_from_true _ c))) in
      let moved : Driven Room plan (done ++ CancelStep q ∷ []) (H ++ line ∷ []) ends = record {
        attached = flat_none attached_by H line refl ∙ (d.attached ∙ sym (flat_none (planned_at plan) done (CancelStep q) refl));
        open_still = any_none closes H line refl ∙ d.open_still;
        collected = λ p. any_none (collects p) H line refl ∙ d.collected p;
        ended = λ p s e. ended_stays H (line ∷ []) p s r (d.ended p s e);
        cancelled = λ p h. ⊎_elim
            (λ t. may_cancel_more done (CancelStep q) p (d.cancelled p t))
            (λ t. let e : q ≡ p = eqb-true q p (⊎_elim (λ u. u) (λ u. absurd (false≢true u)) (or_cases (q == p) false t)) in subst (MayCancel (done ++ CancelStep q ∷ [])) e (runs_unwaited done H ends q d started k n))
            (any_cases (cancels p) H (line ∷ []) h);
        settled = λ a s b p e h m. ⊎_elim
            (λ l. let pq : q ≡ p = eqb-true q p (subst (λ z. settles p z ≡ true) l.1 h) in
            subst (Settled (H ++ line ∷ []) p) (sym l.2) (record {
              attached = any_stays (attaches p) H (line ∷ []) (planned_attached plan done H p d.attached (subst (λ z. list_any (asks z) done ≡ true) pq started) m);
              stopped = subst (λ z. is_running (H ++ line ∷ []) z ≡ false) pq after;
              before = λ _ _ _ _ _ _ x. absurd (false≢true x);
            }))
            (λ l. subst (Settled (H ++ line ∷ []) p) (sym l.2) (later_step (H ++ line ∷ []) p l.0 (CancelStep q) (λ t _. refl) (settled_on H (line ∷ []) p l.0 r (d.settled a s l.0 p l.1 h m))))
            (cut_push done (CancelStep q) a s b e);
        pinned = λ alone room. pinned_now plan done H q (d.pinned (alone_front H (line ∷ []) alone) room);
      } in moved

  pub collected_now : {ring : ℕ} → (done : List Step) (H : Journal) (ends : ℕ → Option QueryState) (q : ℕ) → IsRun ring (H ++ Collect 0 q ∷ []) → Driving Room plan done H ends → Driving Room plan done (H ++ Collect 0 q ∷ []) (with_end ends q (Some (state_of H q)))
  collected_now {ring} done H ends q r dr f =
      let line : JournalLine = Collect 0 q in
      let d = dr (clean_front H (line ∷ []) f) in
      let m = follows_here H line [] r in
      let o = ended_now H q (and_parts (is_attached H q) _ m.ended).0 (not-true _ (and_parts (is_attached H q) _ m.ended).1) in
      record {
        attached = flat_none attached_by H line refl ∙ d.attached;
        open_still = any_none closes H line refl ∙ d.open_still;
        collected = λ p. ⊎_elim
            (λ t. any_later (collects p) H (line ∷ []) (or_left (q == p) false t) ∙ sym (ap is_some (cond-true (q == p) (Some (state_of H q)) (ends p) t)))
            (λ n. any_none (collects p) H line n ∙ (d.collected p ∙ sym (ap is_some (cond-false (q == p) (Some (state_of H q)) (ends p) n))))
            (cases_Bool (q == p));
        ended = λ p s e. ⊎_elim
            (λ t. let pq : q ≡ p = eqb-true q p t in
            let w : Some (state_of H q) ≡ Some s = sym (cond-true (q == p) (Some (state_of H q)) (ends p) t) ∙ e in
            let se : state_of H q ≡ s = cc in
            ended_stays H (line ∷ []) p s r (subst (λ z. HasEnded H z s) pq (subst (HasEnded H q) se o)))
            (λ n. ended_stays H (line ∷ []) p s r (d.ended p s (sym (cond-false (q == p) (Some (state_of H q)) (ends p) n) ∙ e)))
            (cases_Bool (q == p));
        cancelled = λ p h. d.cancelled p (sym (any_none (cancels p) H line refl) ∙ h);
        settled = λ a s b p e h k. settled_on H (line ∷ []) p b r (d.settled a s b p e h k);
        pinned = λ alone room. pinned_on plan done H (line ∷ []) (d.pinned (alone_front H (line ∷ []) alone) room);
      }

  -- the same between two steps: attached, refused, cancelled
  pub going_started : {ring : ℕ} → (done : List Step) (H : Journal) (ends : ℕ → Option QueryState) (q : ℕ) (span : Span) (cs : List ℕ) → IsRun ring (H ++ Attach 0 q cs ∷ []) → plan q ≡ Some cs → Going Room plan done H ends → Going Room plan (done ++ Query q span ∷ []) (H ++ Attach 0 q cs ∷ []) ends
  going_started {ring} done H ends q span cs r p g = record {
    drives = start_planned done H ends q span cs r p g.drives;
    calm = λ alone room. untouched_started plan done H q span cs r (g.calm (alone_front H (Attach 0 q cs ∷ []) alone) room);
  }

  pub going_refused : (done : List Step) (H : Journal) (ends : ℕ → Option QueryState) (q : ℕ) (span : Span) → plan q ≡ None → Going Room plan done H ends → Going Room plan (done ++ Query q span ∷ []) H ends
  going_refused done H ends q span p g = record {
    drives = start_refused done H ends q span p g.drives;
    calm = λ alone room. untouched_refused plan done H q span p (g.calm alone room);
  }

  pub going_stopped : {ring : ℕ} → (done : List Step) (H : Journal) (ends : ℕ → Option QueryState) (q : ℕ) → IsRun ring (H ++ Cancel 0 q ∷ []) → list_any (asks q) done ≡ true → is_some (plan q) ≡ true → Going Room plan done H ends → Going Room plan (done ++ CancelStep q ∷ []) (H ++ Cancel 0 q ∷ []) ends
  going_stopped {ring} done H ends q r started k g = record {
    drives = stopped_now done H ends q r started k g.drives;
    calm = λ alone room. untouched_cancel plan done (H ++ Cancel 0 q ∷ []) q (untouched_on plan done H (Cancel 0 q) (λ p. refl) (g.calm (alone_front H (Cancel 0 q ∷ []) alone) room));
  }

  pub going_waited : (done : List Step) (H : Journal) (ends : ℕ → Option QueryState) (q : ℕ) → Driving Room plan (done ++ Wait q ∷ []) H ends → Going Room plan (done ++ Wait q ∷ []) H ends
  going_waited done H ends q d = record { drives = d; calm = λ alone room. untouched_waited plan done H q }

  -- the past on which a call answers: where the czar is alone, it is what he has seen
  pub going_on : {ring : ℕ} → (done : List Step) (S more : Journal) (ends : ℕ → Option QueryState) → IsRun ring (S ++ more) → of_seat 0 (S ++ more) ≡ of_seat 0 S → Going Room plan done S ends → Going Room plan done (S ++ more) ends
  going_on {ring} done S more ends r own g = record {
    drives = driving_on done S more ends r own g.drives;
    calm = λ alone room. subst (Untouched plan done) (sym (ap (λ (l : Journal). S ++ l) (alone_same S more own alone) ∙ append-nil S)) (g.calm (alone_front S more alone) room);
  }

  -- answers that cannot come, unless somebody else did what only the czar does
  pub again_is_foreign : (done : List Step) (H : Journal) (ends : ℕ → Option QueryState) (q : ℕ) → Driving Room plan done H ends → list_any (asks q) done ≡ false → is_attached H q ≡ true → has_foreign H ≡ true
  again_is_foreign done H ends q dr new a = true_from_ne_false _ (λ f. both_ways _ new (attached_planned plan done H q (dr f).attached a).0)

  pub closed_is_foreign : (done : List Step) (H : Journal) (ends : ℕ → Option QueryState) → Driving Room plan done H ends → is_closed H ≡ true → has_foreign H ≡ true
  closed_is_foreign done H ends dr c = true_from_ne_false _ (λ f. both_ways _ (dr f).open_still c)

  pub gone_is_foreign : (done : List Step) (H : Journal) (ends : ℕ → Option QueryState) (q : ℕ) → Driving Room plan done H ends → list_any (asks q) done ≡ true → is_some (plan q) ≡ true → ends q ≡ None → (is_collected H q ≡ true) ⊎ (is_attached H q ≡ false) → has_foreign H ≡ true
  gone_is_foreign done H ends q dr started k none g = true_from_ne_false _ (λ f. ⊎_elim
      (λ c. both_ways _ ((dr f).collected q ∙ ap is_some none) c)
      (λ n. both_ways _ n (planned_attached plan done H q (dr f).attached started k))
      g)

  pub nothing_driven : (ends : ℕ → Option QueryState) → ((q : ℕ) → ends q ≡ None) → Driving Room plan [] [] ends
  nothing_driven ends none f = record {
    attached = refl;
    open_still = refl;
    collected = λ q. sym (ap is_some (none q));
    ended = λ q s e. let n : None ≡ Some s = sym (none q) ∙ e in absurd (cc);
    cancelled = λ q h. absurd (false≢true h);
    settled = λ a step b q e h k. absurd (no_cut a step b e);
    pinned = λ alone room. nothing_pinned plan;
  } where
    no_cut : (a : List Step) (s : Step) (b : List Step) → [] ≡ a ++ s ∷ b → ⊥
    no_cut [] s b e = cc
    no_cut (x ∷ a) s b e = cc

  pub nothing_going : (ends : ℕ → Option QueryState) → ((q : ℕ) → ends q ≡ None) → Going Room plan [] [] ends
  nothing_going ends none = record { drives = nothing_driven ends none; calm = λ alone room. nothing_untouched plan }

  -- in the end: closed, joined, and all own lines and those of others known
  pub drove : {ring : ℕ} → (workers : ℕ) (steps : List Step) (H more : Journal) (ends : ℕ → Option QueryState) → NumberedFrom 0 steps → IsRun ring ((H ++ Close 0 ∷ []) ++ more) → of_seat 0 ((H ++ Close 0 ∷ []) ++ more) ≡ of_seat 0 (H ++ Close 0 ∷ []) → has_foreign ((H ++ Close 0 ∷ []) ++ more) ≡ false → AllDelivered ((H ++ Close 0 ∷ []) ++ more)
      → (workers ≡ 0 → is_alone ((H ++ Close 0 ∷ []) ++ more) ≡ true) → (query_count steps ≤ 64 → Room)
      → ((q : ℕ) → is_some (plan q) ≡ true → list_any (asks q) steps ≡ true → is_some (ends q) ≡ true) → Driving Room plan steps H ends → Drove workers plan steps ((H ++ Close 0 ∷ []) ++ more) × TellsStates ((H ++ Close 0 ∷ []) ++ more) ends
  drove {ring} workers steps H more ends numbered r own f del alone room all dr =
      let line : JournalLine = Close 0 in
      let C : Journal = H ++ line ∷ [] in
      let J : Journal = C ++ more in
      let rc : IsRun ring C = front_runs C more r in
      let d = dr (clean_front H (line ∷ []) (clean_front C more f)) in
      let same = work_same C more (others_work C more own f) in
      let back : (q : ℕ) → is_attached J q ≡ true → is_attached H q ≡ true = λ q a. sym (any_none (attaches q) H line refl) ∙ (sym (same.has_attached q) ∙ a) in
      let known : (q : ℕ) → is_attached J q ≡ true → is_some (ends q) ≡ true = λ q a. let p = attached_planned plan steps H q d.attached (back q a) in all q p.1 p.0 in
      let over : (q : ℕ) (s : QueryState) → ends q ≡ Some s → HasEnded J q s = λ q s e. ended_stays C more q s r (ended_stays H (line ∷ []) q s rc (d.ended q s e)) in
      let lines : Drove workers plan steps J = record {
        attached = same.attached ∙ (flat_none attached_by H line refl ∙ d.attached);
        collected = λ q a.
            let one : 1 ≤ count_by (collects q) J = some_counted (collects q) J (same.collected q ∙ (any_none (collects q) H line refl ∙ (d.collected q ∙ known q a))) in
            let most : count_by (collects q) J ≤ 1 = collected_once J q r in
            omega (arith, one, most);
        delivered = del;
        closed = same.closed ∙ any_there closes H line [] refl;
        cancelled = λ q h. in_time steps q numbered (d.cancelled q (sym (any_none (cancels q) H line refl) ∙ (sym (same.cancelled q) ∙ h)));
        settled = λ a step b q e h k. (settled_on C more q b r (settled_on H (line ∷ []) q b rc (d.settled a step b q e h k))).before;
        pinned = λ none few q chunk chunks p prompt.
            let cut = prompt_is_a_split steps q prompt in
            let before : is_alone H ≡ true = alone_front H (line ∷ []) (alone_front C more (alone none)) in
            let off : is_cancelled H q ≡ true = (d.pinned before (room few)).pinned cut.0 cut.1 cut.2 q cut.3 chunk chunks cut.4 cut.5 p in
            any_stays (cancels q) C more (any_stays (cancels q) H (line ∷ []) off);
      } in
      (lines, λ q a. end_at q (ends q) refl (known q a) (over q)) where
        end_at : {J : Journal} (q : ℕ) (o : Option QueryState) → ends q ≡ o → is_some (ends q) ≡ true → ((s : QueryState) → ends q ≡ Some s → HasEnded J q s) → ends q ≡ Some (state_of J q)
        end_at q None e h over = absurd (false≢true (sym (ap is_some e) ∙ h))
        end_at q (Some s) e h over = e ∙ ap Some (sym (over s e).state_is)
