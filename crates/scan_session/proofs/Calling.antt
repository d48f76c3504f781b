-- What each answer of the shared board leaves of what the czar knows.
use Rattle.std.proofs.Common.{◌≡◌, ℕ, List, [], ◌∷◌, ◌++◌, true, false, Option, Some, None, is_some, ◌⊎◌, inl, inr, ⊎_elim, refl, sym, ◌∙◌, ap, subst, append_assoc, append-nil, ◌==◌}
use Rattle.std.specs.List.{list_any}
use Rattle.std.proofs.lemmas.Bool.{and_parts, cases_Bool}
use Rattle.std.proofs.lemmas.List.Elements.{filter-append}
use Rattle.turn_lock.specs.Pasts.{fresh}
use Rattle.turn_lock.specs.Seats.{Knows}
use Rattle.turn_lock.proofs.PastLemmas.{fresh-append}
use Rattle.scan_rules.specs.declared.journal_line.JournalLine.{JournalLine}
use Rattle.scan_rules.specs.declared.journal_line.JournalLine.TheVariants.{Attach, Cancel, Collect}
use Rattle.scan_rules.specs.Lines.{seat_of, attaches, has_ticket, delivers, loses}
use Rattle.scan_rules.specs.Queries.{Journal, QueryState, state_of, is_attached, is_collected, is_closed, is_running}
use Rattle.scan_rules.specs.Runs.{IsRun}
use Rattle.scan_rules.proofs.Runs.{follows_here, front_runs, wanted_stays}
use Rattle.scan_rules.proofs.Lists.{any_none, any_stays}
use Rattle.scan_core.specs.Answers.{AnswersCollect}
use Rattle.scan_core.specs.declared.answers.Collect.TheVariants.{Piece}
use Rattle.scan_core.specs.Boards.{BoardState, IsLawful}
use Rattle.session_script.specs.declared.step.Step.{Step}
use Rattle.session_script.specs.declared.step.Step.TheVariants.{Query, Cancel as CancelStep}
use Rattle.session_rules.specs.Ends.{asks as is_query_of}
use Rattle.sql_token.specs.declared.token.Span.{Span}
use Rattle.scan_board.specs.Calls.{BoardSeat, board_at, Called}
use Rattle.scan_worker.specs.Missing.{LosesOnly}
use Rattle.scan_worker.specs.Working.{AllDelivered, Worked}
use Rattle.scan_worker.proofs.Losing.{loses_on, loses_same}
use Rattle.scan_session.specs.Plans.{Plans}
use Rattle.scan_session.specs.Driven.{has_foreign, Driving, Going}
use Rattle.scan_session.specs.Seats.{of_seat, IsCzar, Stays}
use Rattle.scan_session.specs.KnownEnds.{StandsWhole, with_end}
use Rattle.scan_session.proofs.Others.{own_and_others}
use Rattle.scan_session.proofs.Keeping.{clean_front, carry, driving_on, going_on, going_started, going_stopped, stopped_late, collected_now, again_is_foreign, closed_is_foreign, gone_is_foreign}

-- the lines at a call: what was seen, and what others did since
pub record Past (ring : ℕ) (seen past : Journal) : Type 0 where
  pub more : Journal
  pub is : past ≡ seen ++ more
  pub own : of_seat 0 past ≡ of_seat 0 seen
  pub run : IsRun ring past

-- a line that takes nothing and loses nothing
pub record IsCalm (line : JournalLine) : Type 0 where
  pub no_take : (t : ℕ) → has_ticket t line ≡ false
  pub no_loss : (q : ℕ) → loses q line ≡ false

-- a call that made no Take and lost nothing: at most one line
abbrev pub AddsCalm : Journal → Journal → Type 0
AddsCalm past seen = (seen ≡ past) ⊎ ((line : JournalLine) × IsCalm line × (seen ≡ past ++ line ∷ []))

deliver_more : (mine : Journal) (line : JournalLine) → ((t : ℕ) → has_ticket t line ≡ false) → AllDelivered mine → AllDelivered (mine ++ line ∷ [])
deliver_more mine line none d = record {
  each = λ t h. any_stays (delivers t) mine (line ∷ []) (d.each t (sym (any_none (has_ticket t) mine line (none t)) ∙ h));
}

lose_no_more : (may : ℕ → Type 0) (mine : Journal) (line : JournalLine) → IsCalm line → LosesOnly may mine (mine ++ line ∷ [])
lose_no_more may mine line calm = record { each = λ q l. inl (sym (any_none (loses q) mine line (calm.no_loss q)) ∙ l) }

fresh_none : (past : Journal) → fresh past past ≡ []
fresh_none past = ap (λ (l : Journal). fresh past l) (sym (append-nil past)) ∙ fresh-append past []

module _ {R : Type 0} (asks : R → ℕ → ℕ → Type 0) where
  past_runs : {answers : _} (old new : BoardSeat R) (c : Called asks answers old new) → AddsCalm c.past new.seen → IsRun old.root.ring c.past
  past_runs old new c a = ⊎_elim
      (λ e. subst (IsRun old.root.ring) e c.lawful.run.run)
      (λ m. front_runs c.past (m.0 ∷ []) (subst (IsRun old.root.ring) m.2 c.lawful.run.run))
      a

  past_of : {answers : _} (old new : BoardSeat R) → IsCzar asks old → (c : Called asks answers old new) → AddsCalm c.past new.seen → Past old.root.ring old.seen c.past
  past_of old new z c a = record {
    more = c.later.0;
    is = sym c.later.1;
    own = subst (λ n. of_seat n c.past ≡ old.mine) z.first c.own ∙ sym z.own;
    run = past_runs old new c a;
  }

  -- the czar's seat goes on by any call but a take
  pub stays_called : {may : ℕ → Type 0} {answers : _} (old new : BoardSeat R) → IsCzar asks old → (c : Called asks answers old new) → AddsCalm c.past new.seen → Stays asks may old new
  stays_called {may} old new z c a =
      let root : new.root ≡ old.root = ap (λ (s : BoardSeat R). s.root) c.same in
      let mine : new.mine ≡ old.mine ++ fresh c.past new.seen = ap (λ (s : BoardSeat R). s.mine) c.same in
      let first : new.number ≡ 0 = ap (λ (s : BoardSeat R). s.number) c.same ∙ z.first in
      record {
        later = ⊎_elim
            (λ e. (c.later.0, c.later.1 ∙ sym e))
            (λ m. (c.later.0 ++ m.0 ∷ [], sym (append_assoc old.seen c.later.0 (m.0 ∷ [])) ∙ (ap (λ (l : Journal). l ++ m.0 ∷ []) c.later.1 ∙ sym m.2)))
            a;
        turn = ap (λ (s : BoardSeat R). s.turn) c.same;
        root = root;
        ended = ap (λ (s : BoardSeat R). s.ended) c.same;
        made = ap (λ (s : BoardSeat R). s.made) c.same;
        czar = record {
          first = first;
          own = subst (λ n. of_seat n new.seen ≡ new.mine) first c.known.mine;
          lawful = subst (λ r. IsLawful asks (record { root = r.root; ring = r.ring; past = new.seen })) (sym root) c.lawful;
          delivered = subst AllDelivered (sym mine) (⊎_elim
              (λ e. subst (λ (l : Journal). AllDelivered (old.mine ++ l)) (sym (ap (λ (l : Journal). fresh c.past l) e ∙ fresh_none c.past)) (subst AllDelivered (sym (append-nil old.mine)) z.delivered))
              (λ m. subst (λ (l : Journal). AllDelivered (old.mine ++ l)) (sym (ap (λ (l : Journal). fresh c.past l) m.2 ∙ fresh-append c.past (m.0 ∷ []))) (deliver_more old.mine m.0 m.1.no_take z.delivered))
              a);
        };
        lost = subst (LosesOnly may old.mine) (sym mine) (⊎_elim
            (λ e. loses_same may old.mine (old.mine ++ fresh c.past new.seen) (ap (λ (l : Journal). old.mine ++ l) (ap (λ (l : Journal). fresh c.past l) e ∙ fresh_none c.past) ∙ append-nil old.mine))
            (λ m. subst (λ (l : Journal). LosesOnly may old.mine (old.mine ++ l)) (sym (ap (λ (l : Journal). fresh c.past l) m.2 ∙ fresh-append c.past (m.0 ∷ []))) (lose_no_more may old.mine m.0 m.1))
            a);
      }

  module _ {Room : Type 0} (plan : Plans) (done : List Step) (ends : ℕ → Option QueryState) where
    -- what was known holds of the lines at the call
    pub at_call : {answers : _} (old new : BoardSeat R) → IsCzar asks old → (c : Called asks answers old new) → AddsCalm c.past new.seen → Driving Room plan done old.seen ends → Driving Room plan done c.past ends
    at_call old new z c a d =
        let p = past_of old new z c a in
        subst (λ (l : Journal). Driving Room plan done l ends) (sym p.is)
        (driving_on plan done old.seen p.more ends (subst (IsRun old.root.ring) p.is p.run) (subst (λ (l : Journal). of_seat 0 l ≡ of_seat 0 old.seen) p.is p.own) d)

    pub going_at_call : {answers : _} (old new : BoardSeat R) → IsCzar asks old → (c : Called asks answers old new) → AddsCalm c.past new.seen → Going Room plan done old.seen ends → Going Room plan done c.past ends
    going_at_call old new z c a d =
        let p = past_of old new z c a in
        subst (λ (l : Journal). Going Room plan done l ends) (sym p.is)
        (going_on plan done old.seen p.more ends (subst (IsRun old.root.ring) p.is p.run) (subst (λ (l : Journal). of_seat 0 l ≡ of_seat 0 old.seen) p.is p.own) d)

    -- a call that made no line
    pub after_none : {answers : _} (old new : BoardSeat R) → IsCzar asks old → (c : Called asks answers old new) → new.seen ≡ c.past → Driving Room plan done old.seen ends → Driving Room plan done new.seen ends
    after_none old new z c e d = subst (λ (l : Journal). Driving Room plan done l ends) (sym e) (at_call old new z c (inl e) d)

    pub after_attach : {answers : _} (old new : BoardSeat R) (q : ℕ) (span : Span) (chunks : List ℕ) → IsCzar asks old → (c : Called asks answers old new) → new.seen ≡ c.past ++ Attach old.number q chunks ∷ [] → plan q ≡ Some chunks
        → Going Room plan done old.seen ends → Going Room plan (done ++ Query q span ∷ []) new.seen ends
    after_attach old new q span chunks z c e p d =
        let here : new.seen ≡ c.past ++ Attach 0 q chunks ∷ [] = e ∙ ap (λ n. c.past ++ Attach n q chunks ∷ []) z.first in
        subst (λ (l : Journal). Going Room plan (done ++ Query q span ∷ []) l ends) (sym here)
        (going_started plan done c.past ends q span chunks (subst (IsRun old.root.ring) here c.lawful.run.run) p (going_at_call old new z c (inr (Attach old.number q chunks, record { no_take = λ t. refl; no_loss = λ p. refl }, e)) d))

    pub after_cancel : {answers : _} (old new : BoardSeat R) (q : ℕ) → IsCzar asks old → (c : Called asks answers old new) → new.seen ≡ c.past ++ Cancel old.number q ∷ [] → list_any (is_query_of q) done ≡ true → is_some (plan q) ≡ true
        → Going Room plan done old.seen ends → Going Room plan (done ++ CancelStep q ∷ []) new.seen ends
    after_cancel old new q z c e started k d =
        let here : new.seen ≡ c.past ++ Cancel 0 q ∷ [] = e ∙ ap (λ n. c.past ++ Cancel n q ∷ []) z.first in
        subst (λ (l : Journal). Going Room plan (done ++ CancelStep q ∷ []) l ends) (sym here)
        (going_stopped plan done c.past ends q (subst (IsRun old.root.ring) here c.lawful.run.run) started k (going_at_call old new z c (inr (Cancel old.number q, record { no_take = λ t. refl; no_loss = λ p. refl }, e)) d))

    pub after_late : {answers : _} (old new : BoardSeat R) (q : ℕ) → IsCzar asks old → (c : Called asks answers old new) → new.seen ≡ c.past → is_running c.past q ≡ false → list_any (is_query_of q) done ≡ true
        → Going Room plan done old.seen ends → Going Room plan (done ++ CancelStep q ∷ []) new.seen ends
    after_late old new q z c e rests started d =
        subst (λ (l : Journal). Going Room plan (done ++ CancelStep q ∷ []) l ends) (sym e) (stopped_late plan done c.past ends q (past_runs old new c (inl e)) started rests (going_at_call old new z c (inl e) d))

    pub after_collect : {answers : _} (old new : BoardSeat R) (q : ℕ) (s : QueryState) → IsCzar asks old → (c : Called asks answers old new) → new.seen ≡ c.past ++ Collect old.number q ∷ [] → state_of c.past q ≡ s
        → Driving Room plan done old.seen ends → Driving Room plan done new.seen (with_end ends q (Some s))
    after_collect old new q s z c e is d =
        let here : new.seen ≡ c.past ++ Collect 0 q ∷ [] = e ∙ ap (λ n. c.past ++ Collect n q ∷ []) z.first in
        subst (λ (l : Journal). Driving Room plan done l (with_end ends q (Some s))) (sym here)
        (subst (λ t. Driving Room plan done (c.past ++ Collect 0 q ∷ []) (with_end ends q (Some t))) is
        (collected_now plan done c.past ends q (subst (IsRun old.root.ring) here c.lawful.run.run) (at_call old new z c (inr (Collect old.number q, record { no_take = λ t. refl; no_loss = λ p. refl }, e)) d)))

    -- answers that cannot come, unless somebody else did what only the czar does
    pub odd_closed : {answers : _} (old new : BoardSeat R) → IsCzar asks old → (c : Called asks answers old new) → new.seen ≡ c.past → is_closed c.past ≡ true → Driving Room plan done old.seen ends → has_foreign new.seen ≡ true
    odd_closed old new z c e h d = subst (λ (l : Journal). has_foreign l ≡ true) (sym e) (closed_is_foreign plan done c.past ends (at_call old new z c (inl e) d) h)

    pub odd_again : {answers : _} (old new : BoardSeat R) (q : ℕ) → IsCzar asks old → (c : Called asks answers old new) → new.seen ≡ c.past → is_attached c.past q ≡ true → list_any (is_query_of q) done ≡ false → Driving Room plan done old.seen ends → has_foreign new.seen ≡ true
    odd_again old new q z c e h free d = subst (λ (l : Journal). has_foreign l ≡ true) (sym e) (again_is_foreign plan done c.past ends q (at_call old new z c (inl e) d) free h)

    pub odd_gone : {answers : _} (old new : BoardSeat R) (q : ℕ) → IsCzar asks old → (c : Called asks answers old new) → new.seen ≡ c.past → (is_attached c.past q ≡ true → is_collected c.past q ≡ true) → list_any (is_query_of q) done ≡ true → is_some (plan q) ≡ true → ends q ≡ None
        → Driving Room plan done old.seen ends → has_foreign new.seen ≡ true
    odd_gone old new q z c e h started k none d = subst (λ (l : Journal). has_foreign l ≡ true) (sym e)
        (gone_is_foreign plan done c.past ends q (at_call old new z c (inl e) d) started k none (⊎_elim (λ t. inl (h t)) (λ f. inr f) (cases_Bool (is_attached c.past q))))

    -- the czar's own work, and that of others beside it
    pub after_work : (old new : BoardSeat R) → IsCzar asks old → Worked old new → Knows seat_of new → IsLawful asks (board_at old new.seen) → Driving Room plan done old.seen ends → Driving Room plan done new.seen ends
    after_work old new z w knows lawful d f =
        let rest : Journal = w.later.0 in
        let whole : new.seen ≡ old.seen ++ rest = sym w.later.1 in
        let number : new.number ≡ 0 = ap (λ (s : BoardSeat R). s.number) w.same ∙ z.first in
        let mine : of_seat 0 new.seen ≡ old.mine ++ w.more = subst (λ n. of_seat n new.seen ≡ new.mine) number knows.mine ∙ ap (λ (s : BoardSeat R). s.mine) w.same in
        let clean : has_foreign (old.seen ++ rest) ≡ false = subst (λ (l : Journal). has_foreign l ≡ false) whole f in
        let both : of_seat 0 old.seen ++ of_seat 0 rest ≡ of_seat 0 old.seen ++ w.more =
        sym (filter-append (λ l. seat_of l == 0) old.seen rest) ∙ (ap (of_seat 0) (sym whole) ∙ (mine ∙ ap (λ (l : Journal). l ++ w.more) (sym z.own))) in
        subst (λ (l : Journal). Driving Room plan done l ends) (sym whole)
        (λ g. carry plan done old.seen rest ends (subst (IsRun old.root.ring) whole lawful.run.run) (own_and_others old.seen rest w.more both w.work clean) (d (clean_front old.seen rest clean))) f

  -- the czar's seat goes on by work
  pub stays_worked : {may : ℕ → Type 0} (old new : BoardSeat R) → IsCzar asks old → Worked old new → Knows seat_of new → IsLawful asks (board_at old new.seen) → LosesOnly may old.mine new.mine → Stays asks may old new
  stays_worked old new z w knows lawful lost =
      let root : new.root ≡ old.root = ap (λ (s : BoardSeat R). s.root) w.same in
      let first : new.number ≡ 0 = ap (λ (s : BoardSeat R). s.number) w.same ∙ z.first in
      record {
        later = w.later;
        turn = ap (λ (s : BoardSeat R). s.turn) w.same;
        root = root;
        ended = ap (λ (s : BoardSeat R). s.ended) w.same;
        made = ap (λ (s : BoardSeat R). s.made) w.same;
        czar = record {
          first = first;
          own = subst (λ n. of_seat n new.seen ≡ new.mine) first knows.mine;
          lawful = subst (λ r. IsLawful asks (record { root = r.root; ring = r.ring; past = new.seen })) (sym root) lawful;
          delivered = w.delivered;
        };
        lost = lost;
      }

  pub stays_on : {may : ℕ → Type 0} (a b c : BoardSeat R) → Stays asks may a b → Stays asks may b c → Stays asks may a c
  stays_on {may} a b c s t = record {
    later = (s.later.0 ++ t.later.0, sym (append_assoc a.seen s.later.0 t.later.0) ∙ (ap (λ (l : Journal). l ++ t.later.0) s.later.1 ∙ t.later.1));
    turn = t.turn ∙ s.turn;
    root = t.root ∙ s.root;
    ended = t.ended ∙ s.ended;
    made = t.made ∙ s.made;
    czar = t.czar;
    lost = loses_on may a.mine b.mine c.mine s.lost t.lost;
  }

  pub stays_here : {may : ℕ → Type 0} (a : BoardSeat R) → IsCzar asks a → Stays asks may a a
  stays_here {may} a z = record { later = ([], append-nil a.seen); turn = refl; root = refl; ended = refl; made = refl; czar = z; lost = loses_same may a.mine a.mine refl }

  pub stays_none : {may : ℕ → Type 0} {answers : _} (old new : BoardSeat R) → IsCzar asks old → (c : Called asks answers old new) → new.seen ≡ c.past → Stays asks may old new
  stays_none old new z c e = stays_called old new z c (inl e)

  pub stays_line : {may : ℕ → Type 0} {answers : _} (old new : BoardSeat R) (line : JournalLine) → IsCalm line → IsCzar asks old → (c : Called asks answers old new) → new.seen ≡ c.past ++ line ∷ [] → Stays asks may old new
  stays_line old new line free z c e = stays_called old new z c (inr (line, free, e))

  -- a piece that was collected represents all chunks of its query
  pub piece_whole : {P : Type 0} {may : ℕ → Type 0} (stands : R → ℕ → List ℕ → P → Type 0) (q : ℕ) (piece : P) (old new : BoardSeat R) (c : Called asks (λ before after. AnswersCollect stands old.number before q (Piece piece) after) old new) → Stays asks may old new → StandsWhole (stands new.root.root) new.seen q piece
  piece_whole stands q piece old new c s =
      let line : JournalLine = Collect old.number q in
      let e : new.seen ≡ c.past ++ line ∷ [] = ap (λ (b : BoardState R). b.past) c.answer.0.line in
      let run : IsRun old.root.ring (c.past ++ line ∷ []) = subst (IsRun old.root.ring) e c.lawful.run.run in
      let m = follows_here c.past line [] run in
      let there : is_attached c.past q ≡ true = (and_parts (is_attached c.past q) _ m.ended).0 in
      subst (λ r. StandsWhole (stands r.root) new.seen q piece) (sym s.root)
      (subst (λ (l : Journal). StandsWhole (stands old.root.root) l q piece) (sym e) (record {
        attached = any_stays (attaches q) c.past (line ∷ []) there;
        whole = subst (λ (l : List ℕ). stands old.root.root q l piece) (sym (wanted_stays c.past (line ∷ []) q run there)) c.answer.1;
      }))
