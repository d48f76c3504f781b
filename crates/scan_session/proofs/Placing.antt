-- What the czar knows at each place, after each result of a query's board.
use Rattle.std.proofs.Common.{◌≡◌, ℕ, ◌<◌, ◌≤◌, List, [], ◌∷◌, ◌++◌, Bool, true, false, cond, Option, Some, None, is_some, ◌==◌, eqb-true, ◌⊎◌, inl, ⊎_elim, refl, sym, ◌∙◌, ap, subst, arith}
use Rattle.std.specs.List.{list_any}
use Rattle.std.proofs.lemmas.Bool.{cases_Bool, cond-true, cond-false, false≢true}
use mathlib.Core.List.{IsPrefix}
use Rattle.atomic_table.specs.Seated.{TableId}
use Rattle.scan_rules.specs.declared.journal_line.JournalLine.TheVariants.{Attach as AttachLine, Cancel as CancelLine, Collect as CollectLine}
use Rattle.scan_rules.specs.Queries.{Journal, QueryState, state_of}
use Rattle.scan_rules.specs.Scan.{running_count}
use Rattle.scan_core.specs.Answers.{AnswersAttach, AnswersCollect}
use Rattle.scan_core.specs.declared.answers.Collect.{Collect}
use Rattle.scan_core.specs.Boards.{BoardState}
use Rattle.scan_core.specs.declared.answers.Attach.{Attach}
use Rattle.scan_core.specs.declared.answers.Attach.TheVariants.{Attached}
use Rattle.scan_board.specs.Calls.{AnswersCancel, BoardSeat, Called}
use Rattle.session_script.specs.declared.step.Step.{Step}
use Rattle.session_script.specs.declared.step.Step.TheVariants.{Query, Cancel as CancelStep}
use Rattle.session_rules.specs.Ends.{asks as is_query_of}
use Rattle.sql_token.specs.declared.token.Span.{Span}
use Rattle.scan_worker.specs.Missing.{LosesOnly}
use Rattle.scan_worker.specs.Rounds.{Observed}
use Rattle.scan_worker.specs.Working.{Worked}
use Rattle.scan_session.specs.Plans.{Plans, AllRunAtOnce}
use Rattle.scan_session.specs.Driven.{has_foreign, Driven, Driving, Going}
use Rattle.scan_session.specs.Seats.{IsCzar, Stays}
use Rattle.scan_session.specs.KnownEnds.{with_end}
use Rattle.scan_session.specs.Places.{only, AreClean, AreCzars, HasRoom, DrivingAll, GoingAll}
use Rattle.scan_session.proofs.Quiet.{not_full}
use Rattle.scan_session.proofs.Keeping.{clean_front, going_refused, stopped_refused}
use Rattle.scan_session.proofs.Calling.{after_attach, after_cancel, after_collect, after_late, after_none, after_work, going_at_call, stays_here, stays_line, stays_none, stays_on, stays_worked}

-- a cause for which any query may be lost
abbrev any_cause : ℕ → Type 0
any_cause q = Unit {0}

-- where the one premise gives the other
pub driven_weaken : {Room Less : Type 0} (plan : Plans) (done : List Step) (S : Journal) (ends : ℕ → Option QueryState) → (Less → Room) → Driven Room plan done S ends → Driven Less plan done S ends
driven_weaken plan done S ends less d = record {
  attached = d.attached;
  open_still = d.open_still;
  collected = d.collected;
  ended = d.ended;
  cancelled = d.cancelled;
  settled = d.settled;
  pinned = λ alone room. d.pinned alone (less room);
}

pub going_weaken : {Room Less : Type 0} (plan : Plans) (done : List Step) (S : Journal) (ends : ℕ → Option QueryState) → (Less → Room) → Going Room plan done S ends → Going Less plan done S ends
going_weaken plan done S ends less g = record {
  drives = λ f. driven_weaken plan done S ends less (g.drives f);
  calm = λ alone room. g.calm alone (less room);
}

-- a query at its place, and at another
pub here_is : {X : Type 0} (here : ℕ → Bool) (f : ℕ → Option X) (q : ℕ) → here q ≡ true → only here f q ≡ f q
here_is here f q t = cond-true (here q) (f q) None t

pub else_is : {X : Type 0} (here : ℕ → Bool) (f : ℕ → Option X) (q : ℕ) → here q ≡ false → only here f q ≡ None
else_is here f q t = cond-false (here q) (f q) None t

pub some_of : {X : Type 0} (b : Bool) (o : Option X) → is_some (cond b o None) ≡ true → is_some o ≡ true
some_of true o h = h
some_of false o h = absurd (false≢true h)

pub only_none : {X : Type 0} (b : Bool) (o : Option X) → o ≡ None → cond b o None ≡ None
only_none true o n = n
only_none false o n = refl

only_low : (here : ℕ → Bool) (plan : Plans) → AllRunAtOnce plan → AllRunAtOnce (only here plan)
only_low here plan r = record { low = λ q h. r.low q (some_of (here q) (plan q) h) }

-- ends that are the same query by query
pub driven_ends : {Room : Type 0} (plan : Plans) (done : List Step) (S : Journal) (a b : ℕ → Option QueryState) → ((r : ℕ) → a r ≡ b r) → Driven Room plan done S a → Driven Room plan done S b
driven_ends plan done S a b e d = record {
  attached = d.attached;
  open_still = d.open_still;
  collected = λ q. d.collected q ∙ ap is_some (e q);
  ended = λ q s h. d.ended q s (e q ∙ h);
  cancelled = d.cancelled;
  settled = d.settled;
  pinned = d.pinned;
}

-- one end more, at its place and at another
with_here : (here : ℕ → Bool) (ends : ℕ → Option QueryState) (q : ℕ) (s : QueryState) → here q ≡ true → (r : ℕ) → with_end (only here ends) q (Some s) r ≡ only here (with_end ends q (Some s)) r
with_here here ends q s t r = ⊎_elim
    (λ y. let qr : q ≡ r = eqb-true q r y in
    cond-true (q == r) (Some s) (only here ends r) y ∙ sym (here_is here (with_end ends q (Some s)) r (subst (λ k. here k ≡ true) qr t) ∙ cond-true (q == r) (Some s) (ends r) y))
    (λ n. cond-false (q == r) (Some s) (only here ends r) n ∙ ap (λ (o : Option QueryState). cond (here r) o None) (sym (cond-false (q == r) (Some s) (ends r) n)))
    (cases_Bool (q == r))

with_else : (here : ℕ → Bool) (ends : ℕ → Option QueryState) (q : ℕ) (s : QueryState) → here q ≡ false → (r : ℕ) → only here ends r ≡ only here (with_end ends q (Some s)) r
with_else here ends q s f r = ⊎_elim
    (λ y. let off : here r ≡ false = subst (λ k. here k ≡ false) (eqb-true q r y) f in
    else_is here ends r off ∙ sym (else_is here (with_end ends q (Some s)) r off))
    (λ n. ap (λ (o : Option QueryState). cond (here r) o None) (sym (cond-false (q == r) (Some s) (ends r) n)))
    (cases_Bool (q == r))

module _ {R L : Type 0} where
  pub clean_before : (old new : L → BoardSeat R) → ((p : L) → IsPrefix (old p).seen (new p).seen) → AreClean new → AreClean old
  clean_before old new later c = record {
    each = λ p. clean_front (old p).seen (later p).0 (subst (λ (l : Journal). has_foreign l ≡ false) (sym (later p).1) (c.each p));
  }

  pub room_before : (plan : Plans) (old new : L → BoardSeat R) → ((p : L) → IsPrefix (old p).seen (new p).seen) → HasRoom plan new → HasRoom plan old
  room_before plan old new later r = record { low = r.low; clean = clean_before old new later r.clean }

  -- a query line of a query that is refused
  pub refused_goes : (has : L → ℕ → Bool) (plan : Plans) (done : List Step) (seats : L → BoardSeat R) (ends : ℕ → Option QueryState) (q : ℕ) (span : Span) → plan q ≡ None → GoingAll has plan done seats ends → GoingAll has plan (done ++ Query q span ∷ []) seats ends
  refused_goes has plan done seats ends q span none g p = going_refused (only (has p) plan) done (seats p).seen (only (has p) ends) q span (only_none (has p q) (plan q) none) (g p)

  -- the czar's participants go on
  pub czars_on : {may : ℕ → Type 0} (asks : R → ℕ → ℕ → Type 0) (locks : L → TableId) (root : R) (old new : L → BoardSeat R) → AreCzars asks locks root old → ((p : L) → Stays asks may (old p) (new p)) → AreCzars asks locks root new
  czars_on asks locks root old new z s = record {
    own = λ p. (s p).turn ∙ z.own p;
    czar = λ p. (s p).czar;
    engine = λ p. z.engine p ∙ sym (ap (λ r. r.root) (s p).root);
  }

  pub all_stay : {may : ℕ → Type 0} (asks : R → ℕ → ℕ → Type 0) (a b c : L → BoardSeat R) → ((p : L) → Stays asks may (a p) (b p)) → ((p : L) → Stays asks may (b p) (c p)) → (p : L) → Stays asks may (a p) (c p)
  all_stay asks a b c s t p = stays_on asks (a p) (b p) (c p) (s p) (t p)

module _ {R L : Type 0} (rootasks : R → ℕ → ℕ → Type 0) (has : L → ℕ → Bool) where
  -- a cancel at the query's board, and nothing at the others
  module _ (q : ℕ) (ran : Bool) (old new : L → BoardSeat R) (z : (p : L) → IsCzar rootasks (old p))
      (called : (p : L) → has p q ≡ true → Called rootasks (λ before after. AnswersCancel (old p).number before q ran after) (old p) (new p))
      (others : (p : L) → has p q ≡ false → new p ≡ old p) where
    pub cancel_stays : (may : ℕ → Type 0) (p : L) → Stays rootasks may (old p) (new p)
    cancel_stays may p = ⊎_elim
        (λ t. let c = called p t in ⊎_elim
        (λ r. stays_line rootasks (old p) (new p) (CancelLine (old p).number q) (record { no_take = λ t. refl; no_loss = λ k. refl }) (z p) c (ap (λ (b : BoardState R). b.past) (c.answer.line r)))
        (λ r. stays_none rootasks (old p) (new p) (z p) c (ap (λ (b : BoardState R). b.past) (c.answer.same r)))
        (cases_Bool ran))
        (λ f. subst (Stays rootasks may (old p)) (sym (others p f)) (stays_here rootasks (old p) (z p)))
        (cases_Bool (has p q))

    pub cancel_goes : (plan : Plans) (done : List Step) (ends : ℕ → Option QueryState) → list_any (is_query_of q) done ≡ true → is_some (plan q) ≡ true
        → GoingAll has plan done old ends → GoingAll has plan (done ++ CancelStep q ∷ []) new ends
    cancel_goes plan done ends started k g p =
        let here = only (has p) plan in
        let known = only (has p) ends in
        going_weaken here (done ++ CancelStep q ∷ []) (new p).seen known (room_before plan old new (λ o. (cancel_stays any_cause o).later))
        (⊎_elim
        (λ t. let c = called p t in
        let some : is_some (here q) ≡ true = ap is_some (here_is (has p) plan q t) ∙ k in
        ⊎_elim
        (λ r. after_cancel rootasks here done known (old p) (new p) q (z p) c (ap (λ (b : BoardState R). b.past) (c.answer.line r)) started some (g p))
        (λ r. after_late rootasks here done known (old p) (new p) q (z p) c (ap (λ (b : BoardState R). b.past) (c.answer.same r)) (sym c.answer.ran_is ∙ r) started (g p))
        (cases_Bool ran))
        (λ f. subst (λ (s : BoardSeat R). Going (HasRoom plan old) here (done ++ CancelStep q ∷ []) s.seen known) (sym (others p f))
        (stopped_refused here done (old p).seen known q (ap is_some (else_is (has p) plan q f)) (g p)))
        (cases_Bool (has p q)))

  -- an attach at the query's board, and nothing at the others
  module _ {P : Type 0} (q : ℕ) (chunks : List ℕ) (empty : P) (old new : L → BoardSeat R) (z : (p : L) → IsCzar rootasks (old p))
      (others : (p : L) → has p q ≡ false → new p ≡ old p) where
    -- which made its line
    pub attached_stays : (may : ℕ → Type 0) → ((p : L) → has p q ≡ true → Called rootasks (λ before after. AnswersAttach (old p).number before q chunks empty Attached after) (old p) (new p)) → (p : L) → Stays rootasks may (old p) (new p)
    attached_stays may called p = ⊎_elim
        (λ t. let c = called p t in stays_line rootasks (old p) (new p) (AttachLine (old p).number q chunks) (record { no_take = λ t. refl; no_loss = λ k. refl }) (z p) c (ap (λ (b : BoardState R). b.past) c.answer.line))
        (λ f. subst (Stays rootasks may (old p)) (sym (others p f)) (stays_here rootasks (old p) (z p)))
        (cases_Bool (has p q))

    pub attached_goes : (called : (p : L) → has p q ≡ true → Called rootasks (λ before after. AnswersAttach (old p).number before q chunks empty Attached after) (old p) (new p))
        → (plan : Plans) (done : List Step) (ends : ℕ → Option QueryState) (span : Span) → plan q ≡ Some chunks
        → GoingAll has plan done old ends → GoingAll has plan (done ++ Query q span ∷ []) new ends
    attached_goes called plan done ends span planned g p =
        let here = only (has p) plan in
        let known = only (has p) ends in
        going_weaken here (done ++ Query q span ∷ []) (new p).seen known (room_before plan old new (λ o. (attached_stays any_cause called o).later))
        (⊎_elim
        (λ t. let c = called p t in after_attach rootasks here done known (old p) (new p) q span chunks (z p) c (ap (λ (b : BoardState R). b.past) c.answer.line) (here_is (has p) plan q t ∙ planned) (g p))
        (λ f. subst (λ (s : BoardSeat R). Going (HasRoom plan old) here (done ++ Query q span ∷ []) s.seen known) (sym (others p f))
        (going_refused here done (old p).seen known q span (else_is (has p) plan q f) (g p)))
        (cases_Bool (has p q)))

  -- a call at the query's board that made no line, and nothing at the others
  module _ (q : ℕ) (old new : L → BoardSeat R) (z : (p : L) → IsCzar rootasks (old p)) (others : (p : L) → has p q ≡ false → new p ≡ old p)
      (answers : L → BoardState R → BoardState R → Type 0) (called : (p : L) → has p q ≡ true → Called rootasks (answers p) (old p) (new p))
      (same : (p : L) (t : has p q ≡ true) → (new p).seen ≡ (called p t).past) where
    pub none_stays : (may : ℕ → Type 0) (p : L) → Stays rootasks may (old p) (new p)
    none_stays may p = ⊎_elim
        (λ t. stays_none rootasks (old p) (new p) (z p) (called p t) (same p t))
        (λ f. subst (Stays rootasks may (old p)) (sym (others p f)) (stays_here rootasks (old p) (z p)))
        (cases_Bool (has p q))

    pub none_drives : (plan : Plans) (done : List Step) (ends : ℕ → Option QueryState) → DrivingAll has plan done old ends → DrivingAll has plan done new ends
    none_drives plan done ends d p f =
        let here = only (has p) plan in
        let known = only (has p) ends in
        driven_weaken here done (new p).seen known (room_before plan old new (λ o. (none_stays any_cause o).later))
        (⊎_elim
        (λ (t : has p q ≡ true). after_none rootasks here done known (old p) (new p) (z p) (called p t) (same p t) (d p))
        (λ (t : has p q ≡ false). subst (λ (s : BoardSeat R). Driving (HasRoom plan old) here done s.seen known) (sym (others p t)) (d p))
        (cases_Bool (has p q)) f)

    pub none_goes : (plan : Plans) (done : List Step) (ends : ℕ → Option QueryState) → GoingAll has plan done old ends → GoingAll has plan done new ends
    none_goes plan done ends g p =
        let here = only (has p) plan in
        let known = only (has p) ends in
        going_weaken here done (new p).seen known (room_before plan old new (λ o. (none_stays any_cause o).later))
        (⊎_elim
        (λ t. subst (λ (l : Journal). Going (HasRoom plan old) here done l known) (sym (same p t)) (going_at_call rootasks here done known (old p) (new p) (z p) (called p t) (inl (same p t)) (g p)))
        (λ f. subst (λ (s : BoardSeat R). Going (HasRoom plan old) here done s.seen known) (sym (others p f)) (g p))
        (cases_Bool (has p q)))

  -- a collect that returned an end
  module _ (q : ℕ) (s : QueryState) (old new : L → BoardSeat R) (z : (p : L) → IsCzar rootasks (old p)) (others : (p : L) → has p q ≡ false → new p ≡ old p)
      (answers : L → BoardState R → BoardState R → Type 0) (called : (p : L) → has p q ≡ true → Called rootasks (answers p) (old p) (new p))
      (line : (p : L) (t : has p q ≡ true) → (new p).seen ≡ (called p t).past ++ CollectLine (old p).number q ∷ []) where
    pub told_stays : (may : ℕ → Type 0) (p : L) → Stays rootasks may (old p) (new p)
    told_stays may p = ⊎_elim
        (λ t. stays_line rootasks (old p) (new p) (CollectLine (old p).number q) (record { no_take = λ t. refl; no_loss = λ k. refl }) (z p) (called p t) (line p t))
        (λ f. subst (Stays rootasks may (old p)) (sym (others p f)) (stays_here rootasks (old p) (z p)))
        (cases_Bool (has p q))

    pub told_drives : ((p : L) (t : has p q ≡ true) → state_of (called p t).past q ≡ s) → (plan : Plans) (done : List Step) (ends : ℕ → Option QueryState)
        → DrivingAll has plan done old ends → DrivingAll has plan done new (with_end ends q (Some s))
    told_drives is plan done ends d p f =
        let here = only (has p) plan in
        let known = only (has p) ends in
        driven_weaken here done (new p).seen (only (has p) (with_end ends q (Some s))) (room_before plan old new (λ o. (told_stays any_cause o).later))
        (⊎_elim
        (λ (t : has p q ≡ true). driven_ends here done (new p).seen (with_end known q (Some s)) (only (has p) (with_end ends q (Some s))) (with_here (has p) ends q s t)
        (after_collect rootasks here done known (old p) (new p) q s (z p) (called p t) (line p t) (is p t) (d p) f))
        (λ (t : has p q ≡ false). driven_ends here done (new p).seen known (only (has p) (with_end ends q (Some s))) (with_else (has p) ends q s t)
        (subst (λ (e : BoardSeat R). Driving (HasRoom plan old) here done e.seen known) (sym (others p t)) (d p) f))
        (cases_Bool (has p q)))

  -- a call of an attach, if its result is known
  pub called_as : {P : Type 0} (q : ℕ) (chunks : List ℕ) (empty : P) (old new : L → BoardSeat R) (r s : Attach P) → r ≡ s
      → ((p : L) → has p q ≡ true → Called rootasks (λ before after. AnswersAttach (old p).number before q chunks empty r after) (old p) (new p))
      → (p : L) → has p q ≡ true → Called rootasks (λ before after. AnswersAttach (old p).number before q chunks empty s after) (old p) (new p)
  called_as {P} q chunks empty old new r s e called p t = subst (λ (a : Attach P). Called rootasks (λ before after. AnswersAttach (old p).number before q chunks empty a after) (old p) (new p)) e (called p t)

  -- the same of a collect
  pub collected_as : {P : Type 0} (stands : R → ℕ → List ℕ → P → Type 0) (q : ℕ) (old new : L → BoardSeat R) (r s : Collect P) → r ≡ s
      → ((p : L) → has p q ≡ true → Called rootasks (λ before after. AnswersCollect stands (old p).number before q r after) (old p) (new p))
      → (p : L) → has p q ≡ true → Called rootasks (λ before after. AnswersCollect stands (old p).number before q s after) (old p) (new p)
  collected_as {P} stands q old new r s e called p t = subst (λ (a : Collect P). Called rootasks (λ before after. AnswersCollect stands (old p).number before q a after) (old p) (new p)) e (called p t)

  -- a full board has no room for one query more
  no_room : (plan : Plans) (done : List Step) (ends : ℕ → Option QueryState) (mid : L → BoardSeat R) (home : L) (q : ℕ) → has home q ≡ true
      → ((p : L) → IsCzar rootasks (mid p)) → 64 ≤ running_count (mid home).seen → list_any (is_query_of q) done ≡ false → 1 ≤ q → is_some (plan q) ≡ true
      → GoingAll has plan done mid ends → HasRoom plan mid → ⊥
  no_room plan done ends mid home q t z full free from k g room =
      let d = (g home).drives (room.clean.each home) in
      let few : running_count (mid home).seen < 64 = not_full (only (has home) plan) done (mid home).seen q (z home).lawful.run.run d.attached (only_low (has home) plan room.low) free from (ap is_some (here_is (has home) plan q t) ∙ k) in
      omega (arith, full, few)

  -- the czar works for once, and others beside him
  pub work_stays : {may : ℕ → Type 0} (mid new : L → BoardSeat R) → ((p : L) → IsCzar rootasks (mid p)) → ((p : L) → Worked (mid p) (new p)) → ((p : L) → (new p ≡ mid p) ⊎ Observed rootasks (mid p) (new p))
      → ((p : L) → LosesOnly may (mid p).mine (new p).mine) → (p : L) → Stays rootasks may (mid p) (new p)
  work_stays {may} mid new z w observed lost p = ⊎_elim
      (λ e. subst (Stays rootasks may (mid p)) (sym e) (stays_here rootasks (mid p) (z p)))
      (λ t. stays_worked rootasks (mid p) (new p) (z p) (w p) t.known t.lawful (lost p))
      (observed p)

  pub work_drives : (plan : Plans) (done : List Step) (ends : ℕ → Option QueryState) (mid new : L → BoardSeat R) → ((p : L) → IsCzar rootasks (mid p)) → ((p : L) → Worked (mid p) (new p)) → ((p : L) → (new p ≡ mid p) ⊎ Observed rootasks (mid p) (new p))
      → DrivingAll has plan done mid ends → DrivingAll has plan done new ends
  work_drives plan done ends mid new z w observed d p f =
      let here = only (has p) plan in
      let known = only (has p) ends in
      driven_weaken here done (new p).seen known (room_before plan mid new (λ o. (w o).later))
      (⊎_elim
      (λ (e : new p ≡ mid p). subst (λ (s : BoardSeat R). Driving (HasRoom plan mid) here done s.seen known) (sym e) (d p))
      (λ (t : Observed rootasks (mid p) (new p)). after_work rootasks here done known (mid p) (new p) (z p) (w p) t.known t.lawful (d p))
      (observed p) f)

  -- the query's board is full, and the czar works for once
  pub full_goes : (plan : Plans) (done : List Step) (ends : ℕ → Option QueryState) (mid new : L → BoardSeat R) (home : L) (q : ℕ) → has home q ≡ true
      → ((p : L) → IsCzar rootasks (mid p)) → 64 ≤ running_count (mid home).seen → list_any (is_query_of q) done ≡ false → 1 ≤ q → is_some (plan q) ≡ true
      → ((p : L) → Worked (mid p) (new p)) → ((p : L) → (new p ≡ mid p) ⊎ Observed rootasks (mid p) (new p))
      → GoingAll has plan done mid ends → GoingAll has plan done new ends
  full_goes plan done ends mid new home q t z full free from k w observed g p = record {
    drives = work_drives plan done ends mid new z w observed (λ o. (g o).drives) p;
    calm = λ alone room. absurd (no_room plan done ends mid home q t z full free from k g (room_before plan mid new (λ o. (w o).later) room));
  }
