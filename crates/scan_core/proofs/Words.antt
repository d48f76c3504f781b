-- What a line leaves as it was; the slots after a Close, a Cancel and a Collect.
use Rattle.std.proofs.Common.{rules, ◌≡◌, ℕ, ◌+◌, ◌<◌, ◌≤◌, ◌==◌, ◌||◌, List, [], ◌∷◌, ◌++◌, length, get_or, Bool, true, false, not, ◌&&◌, cond, nat_lt, ⊎_elim, refl, sym, ◌∙◌, ap, subst, arith, count_by, ne_eqb, eq-eqb}
use Rattle.std.specs.List.{list_all}
use Rattle.std.proofs.lemmas.Bool.{cases_lt, and_parts, cases_eq, and_from, false_from_ne_true, both_ways, not-true, not_from_false, or_left}
use Rattle.scan_rules.specs.declared.journal_line.JournalLine.{JournalLine}
use Rattle.scan_rules.specs.declared.journal_line.JournalLine.TheVariants.{Cancel, Collect, Close}
use Rattle.scan_rules.proofs.Giving.{is_given_same}
use Rattle.scan_rules.proofs.Lists.{any_later, any_none, any_push, count_cons, flat_none}
use Rattle.scan_rules.proofs.Numbers.{count_le}
use Rattle.scan_rules.proofs.Runs.{run_more}
use Rattle.scan_rules.proofs.Scan.{attached_low, place_other}
use Rattle.scan_rules.specs.Lines.{attaches, cancels, chunk_of, chunks_for, closes, collects, is_deliver, loses, serves}
use Rattle.scan_rules.specs.Numbers.{below, has}
use Rattle.scan_rules.specs.Queries.{Journal, is_attached, is_cancelled, is_closed, is_collected, is_complete, is_given, is_lost, is_running, is_served, is_standing, wanted}
use Rattle.scan_rules.specs.Runs.{IsRun, MayFollow}
use Rattle.scan_rules.specs.Scan.{place, running_count}
use Rattle.scan_core.specs.declared.slot.Slot.{Slot}
use Rattle.scan_core.specs.Slots.{runs, waits}
use Rattle.scan_core.specs.Kept.{owed_in, Words, Fits, Kept, IsAhead}
use Rattle.scan_core.specs.Changes.{Stopped, StoppedAt, Collected, CollectedAt}
use Rattle.scan_rules.proofs.Going.{Calm, ascend_same, count_agree, count_same, needs_same, none_taken, running_same}

-- so as much is owed
pub owed_same : (ring : ℕ) (past : Journal) (line : JournalLine) (q : ℕ) → IsRun ring past → MayFollow ring past line → chunks_for q line ≡ [] → is_deliver line ≡ false → owed_in (past ++ line ∷ []) q ≡ owed_in past q
owed_same ring past line q r m w n = ap (λ (l : List ℕ). count_by (λ c. not (is_given (past ++ line ∷ []) q c)) l) (flat_none (chunks_for q) past line w) ∙ count_agree (λ c. not (is_given (past ++ line ∷ []) q c)) (λ c. not (is_given past q c)) (λ c. ap not (is_given_same ring past line q c r m n)) (wanted past q)

-- and its slot says what it said
pub words_same : (ring : ℕ) (past : Journal) (line : JournalLine) (q : ℕ) (s : Slot) → IsRun ring past → MayFollow ring past line → Calm q line → collects q line ≡ false → Words past q s → Words (past ++ line ∷ []) q s
words_same ring past line q s r m k g w = record {
  attached = w.attached ∙ sym (any_none (attaches q) past line k.attach);
  cancelled = w.cancelled ∙ sym (any_none (cancels q) past line k.cancel);
  lost = w.lost ∙ sym (any_none (loses q) past line k.lose);
  collected = w.collected ∙ sym (any_none (collects q) past line g);
  owed = w.owed ∙ sym (owed_same ring past line q r m k.chunks k.deliver);
}

-- a line that is no Take leaves what it does not touch
pub fits_same : (ring : ℕ) (past : Journal) (line : JournalLine) (q : ℕ) (s : Slot) → IsRun ring past → MayFollow ring past line → Calm q line → collects q line ≡ false → ((c : ℕ) → serves q c line ≡ false) → chunk_of line ≡ [] → Fits ring past q s → Fits ring (past ++ line ∷ []) q s
fits_same ring past line q s r m k g n e f = record {
  words = words_same ring past line q s r m k g f.words;
  ahead = λ c. f.ahead c ∙ sym (needs_same ring past line q c r m k (n c));
  ordered = subst (λ p. IsAhead ring p s.ahead.items) (sym (place_other ring past line e)) f.ordered;
}

-- adding nothing keeps a number above 0
lt_zero : (n : ℕ) → nat_lt 0 (0 + n) ≡ nat_lt 0 n
lt_zero n = ap (nat_lt 0) (let e : 0 + n ≡ n = omega arith in e)

-- one more is above 0
lt_more : (n : ℕ) → nat_lt 0 (1 + n) ≡ true
lt_more n = search (rules)

-- something is owed where not all is given
pub owed_none : (p : ℕ → Bool) (xs : List ℕ) → nat_lt 0 (count_by (λ c. not (p c)) xs) ≡ not (list_all p xs)
owed_none p [] = refl
owed_none p (x ∷ xs) = ap (nat_lt 0) (count_cons (λ c. not (p c)) x xs) ∙ by_case (p x) (owed_none p xs) where
  by_case : (b : Bool) → nat_lt 0 (count_by (λ c. not (p c)) xs) ≡ not (list_all p xs) → nat_lt 0 (cond (not b) 1 0 + count_by (λ c. not (p c)) xs) ≡ not (b && list_all p xs)
  by_case true h = lt_zero (count_by (λ c. not (p c)) xs) ∙ h
  by_case false h = lt_more (count_by (λ c. not (p c)) xs)

-- four tests, the last one apart
and_move : (a b c d : Bool) → (a && (b && (c && d))) ≡ ((a && (b && c)) && d)
and_move true true c d = refl
and_move true false c d = refl
and_move false b c d = refl

-- a slot runs where its query does
pub runs_is : (past : Journal) (q : ℕ) (s : Slot) → Words past q s → runs s ≡ is_running past q
runs_is past q s w =
    ap (λ b. b && (not s.cancelled && (not s.lost && nat_lt 0 s.owed))) w.attached
    ∙ (ap (λ b. is_attached past q && (not b && (not s.lost && nat_lt 0 s.owed))) w.cancelled
    ∙ (ap (λ b. is_attached past q && (not (is_cancelled past q) && (not b && nat_lt 0 s.owed))) w.lost
    ∙ (ap (λ b. is_attached past q && (not (is_cancelled past q) && (not (is_lost past q) && b))) (ap (nat_lt 0) w.owed ∙ owed_none (is_given past q) (wanted past q))
    ∙ and_move (is_attached past q) (not (is_cancelled past q)) (not (is_lost past q)) (not (is_complete past q)))))

-- a Close changes nothing of any query
calm_close : (s q : ℕ) → Calm q (Close s)
calm_close s q = record { attach = refl; chunks = refl; cancel = refl; lose = refl; deliver = refl }

-- a Close
pub kept_close : (ring here tickets : ℕ) (closed : Bool) (slots : List Slot) (past : Journal) (s : ℕ) → Kept ring here tickets closed slots past → closed ≡ false → Kept ring here tickets true slots (past ++ Close s ∷ [])
kept_close ring here tickets closed slots past s k e =
    let m : MayFollow ring past (Close s) = sym k.closes ∙ e in
    record {
      small = k.small;
      low = k.low;
      run = run_more past (Close s) k.run m;
      stands = k.stands ∙ sym (place_other ring past (Close s) refl);
      counted = k.counted ∙ sym (none_taken past (Close s) refl);
      closes = sym (any_push closes past (Close s) ∙ or_true (is_closed past));
      full = k.full;
      few = subst (λ n. n ≤ 64) (sym (count_same ring past (Close s) k.run m (calm_close s))) k.few;
      ascend = λ j. ascend_same past (Close s) j refl (k.ascend j);
      each = λ q d l. fits_same ring past (Close s) q (get_or slots q d) k.run m (calm_close s q) refl (λ c. refl) refl (k.each q d l);
    } where
      or_true : (b : Bool) → (b || true) ≡ true
      or_true true = refl
      or_true false = refl

-- a Cancel changes nothing of other queries
calm_cancel : (s q j : ℕ) → (j ≡ q → ⊥) → Calm j (Cancel s q)
calm_cancel s q j n = record { attach = refl; chunks = refl; cancel = ne_eqb q j (λ e. n (sym e)); lose = refl; deliver = refl }

-- its query is cancelled then
cancelled_now : (past : Journal) (s q : ℕ) → is_cancelled (past ++ Cancel s q ∷ []) q ≡ true
cancelled_now past s q = any_later (cancels q) past (Cancel s q ∷ []) (or_left (q == q) false (eq-eqb q q refl))

-- after its Cancel a query does not run
cancel_stops : (past : Journal) (s q : ℕ) → is_running (past ++ Cancel s q ∷ []) q ≡ false
cancel_stops past s q = false_from_ne_true _ (λ h.
    let a = and_parts (is_standing (past ++ Cancel s q ∷ []) q) _ h in
    let b = and_parts (is_attached (past ++ Cancel s q ∷ []) q) _ a.0 in
    let c = and_parts (not (is_cancelled (past ++ Cancel s q ∷ []) q)) _ b.1 in
    both_ways _ (not-true _ c.0) (cancelled_now past s q))

-- no chunks are in scan order
pub empty_ahead : (ring p : ℕ) → IsAhead ring p []
empty_ahead ring p = record { nearer = λ front c rest x e h. absurd (no_cut front c rest e) } where
  no_cut : (front : List ℕ) (c : ℕ) (rest : List ℕ) → [] ≡ front ++ c ∷ rest → ⊥
  no_cut [] c rest e = cc
  no_cut (b ∷ front) c rest e = cc

-- the slot of a query that is cancelled
stopped_fits : (ring : ℕ) (past : Journal) (s q : ℕ) (old new : Slot) → IsRun ring past → MayFollow ring past (Cancel s q) → Fits ring past q old → Stopped old new → Fits ring (past ++ Cancel s q ∷ []) q new
stopped_fits ring past s q old new r m f t =
    let line : JournalLine = Cancel s q in
    let w = f.words in
    record {
      words = record {
        attached = t.attached ∙ (w.attached ∙ sym (any_none (attaches q) past line refl));
        cancelled = t.cancelled ∙ sym (cancelled_now past s q);
        lost = t.lost ∙ (w.lost ∙ sym (any_none (loses q) past line refl));
        collected = t.collected ∙ (w.collected ∙ sym (any_none (collects q) past line refl));
        owed = t.owed ∙ (w.owed ∙ sym (owed_same ring past line q r m refl refl));
      };
      ahead = λ c. ap (λ (l : List ℕ). has l c) t.ahead ∙ ap (λ b. b && (has (wanted (past ++ line ∷ []) q) c && not (is_served (past ++ line ∷ []) q c))) (sym (cancel_stops past s q));
      ordered = subst (λ (l : List ℕ). IsAhead ring (place ring (past ++ line ∷ [])) l) (sym t.ahead) (empty_ahead ring (place ring (past ++ line ∷ [])));
    }

-- no more queries run after a Cancel
cancel_count : (ring : ℕ) (past : Journal) (s q : ℕ) → IsRun ring past → MayFollow ring past (Cancel s q) → running_count (past ++ Cancel s q ∷ []) ≤ running_count past
cancel_count ring past s q r m = count_le (is_running past) (is_running (past ++ Cancel s q ∷ [])) (below 256) (λ j h. ⊎_elim
    (λ e. absurd (both_ways _ (cancel_stops past s q) (subst (λ z. is_running (past ++ Cancel s q ∷ []) z ≡ true) e h)))
    (λ n. sym (running_same ring past (Cancel s q) j r m (calm_cancel s q j n)) ∙ h)
    (cases_eq j q))

-- a Cancel
pub kept_cancel : (ring here tickets : ℕ) (closed : Bool) (slots after : List Slot) (past : Journal) (s q : ℕ) → Kept ring here tickets closed slots past → is_running past q ≡ true → StoppedAt slots after q → Kept ring here tickets closed after (past ++ Cancel s q ∷ [])
kept_cancel ring here tickets closed slots after past s q k m t =
    let few : running_count past ≤ 64 = k.few in
    let less : running_count (past ++ Cancel s q ∷ []) ≤ running_count past = cancel_count ring past s q k.run m in
    record {
      small = k.small;
      low = k.low;
      run = run_more past (Cancel s q) k.run m;
      stands = k.stands ∙ sym (place_other ring past (Cancel s q) refl);
      counted = k.counted ∙ sym (none_taken past (Cancel s q) refl);
      closes = k.closes ∙ sym (any_none closes past (Cancel s q) refl);
      full = t.beside.len ∙ k.full;
      few = omega (arith, few, less);
      ascend = λ j. ascend_same past (Cancel s q) j refl (k.ascend j);
      each = λ j d l. ⊎_elim
          (λ e. subst (λ z. Fits ring (past ++ Cancel s q ∷ []) z (get_or after z d)) (sym e) (stopped_fits ring past s q (get_or slots q d) (get_or after q d) k.run m (k.each q d (subst (λ z. z < 256) e l)) (t.here d)))
          (λ n. subst (Fits ring (past ++ Cancel s q ∷ []) j) (sym (t.beside.other j d n)) (fits_same ring past (Cancel s q) j (get_or slots j d) k.run m (calm_cancel s q j n) refl (λ c. refl) refl (k.each j d l)))
          (cases_eq j q);
    }

-- some slot, for the default of a read
pub some_slot : (q : ℕ) (xs : List Slot) → q < length xs → Slot
some_slot q [] h = absurd (omega (arith, h))
some_slot q (x ∷ xs) h = x

-- a slot that is read runs where its query does
pub runs_at_is : (ring here tickets : ℕ) (closed : Bool) (slots : List Slot) (past : Journal) (q : ℕ) (b : Bool) → Kept ring here tickets closed slots past → q < 256 → ((d : Slot) → b ≡ runs (get_or slots q d)) → is_running past q ≡ b
runs_at_is ring here tickets closed slots past q b k l e =
    let full : length slots ≡ 256 = k.full in
    let d : Slot = some_slot q slots (omega (arith, full, l)) in
    sym (e d ∙ runs_is past q (get_or slots q d) (k.each q d l).words)

-- a Collect changes nothing of what a query needs
calm_collect : (s q j : ℕ) → Calm j (Collect s q)
calm_collect s q j = record { attach = refl; chunks = refl; cancel = refl; lose = refl; deliver = refl }

-- the slot of a query that is collected
collected_fits : (ring : ℕ) (past : Journal) (s q : ℕ) (old new : Slot) → IsRun ring past → MayFollow ring past (Collect s q) → Fits ring past q old → Collected old new → Fits ring (past ++ Collect s q ∷ []) q new
collected_fits ring past s q old new r m f t =
    let line : JournalLine = Collect s q in
    let w = f.words in
    record {
      words = record {
        attached = t.attached ∙ (w.attached ∙ sym (any_none (attaches q) past line refl));
        cancelled = t.cancelled ∙ (w.cancelled ∙ sym (any_none (cancels q) past line refl));
        lost = t.lost ∙ (w.lost ∙ sym (any_none (loses q) past line refl));
        collected = t.collected ∙ sym (any_later (collects q) past (line ∷ []) (or_left (q == q) false (eq-eqb q q refl)));
        owed = t.owed ∙ (w.owed ∙ sym (owed_same ring past line q r m refl refl));
      };
      ahead = λ c. ap (λ (l : List ℕ). has l c) t.ahead ∙ (f.ahead c ∙ sym (needs_same ring past line q c r m (calm_collect s q q) refl));
      ordered = subst (λ (l : List ℕ). IsAhead ring (place ring (past ++ line ∷ [])) l) (sym t.ahead) (subst (λ p. IsAhead ring p old.ahead.items) (sym (place_other ring past line refl)) f.ordered);
    }

-- a Collect
pub kept_collect : (ring here tickets : ℕ) (closed : Bool) (slots after : List Slot) (past : Journal) (s q : ℕ) → Kept ring here tickets closed slots past → MayFollow ring past (Collect s q) → CollectedAt slots after q → Kept ring here tickets closed after (past ++ Collect s q ∷ [])
kept_collect ring here tickets closed slots after past s q k m t =
    record {
      small = k.small;
      low = k.low;
      run = run_more past (Collect s q) k.run m;
      stands = k.stands ∙ sym (place_other ring past (Collect s q) refl);
      counted = k.counted ∙ sym (none_taken past (Collect s q) refl);
      closes = k.closes ∙ sym (any_none closes past (Collect s q) refl);
      full = t.beside.len ∙ k.full;
      few = subst (λ n. n ≤ 64) (sym (count_same ring past (Collect s q) k.run m (calm_collect s q))) k.few;
      ascend = λ j. ascend_same past (Collect s q) j refl (k.ascend j);
      each = λ j d l. ⊎_elim
          (λ e. subst (λ z. Fits ring (past ++ Collect s q ∷ []) z (get_or after z d)) (sym e) (collected_fits ring past s q (get_or slots q d) (get_or after q d) k.run m (k.each q d (subst (λ z. z < 256) e l)) (t.here d)))
          (λ n. subst (Fits ring (past ++ Collect s q ∷ []) j) (sym (t.beside.other j d n)) (fits_same ring past (Collect s q) j (get_or slots j d) k.run m (calm_collect s q j) (ne_eqb q j (λ e. n (sym e))) (λ c. refl) refl (k.each j d l)))
          (cases_eq j q);
    }

-- attached and not collected, by the slot
pub waits_at_is : (ring here tickets : ℕ) (closed : Bool) (slots : List Slot) (past : Journal) (q : ℕ) (b : Bool) → Kept ring here tickets closed slots past → q < 256 → ((d : Slot) → b ≡ waits (get_or slots q d)) → (is_attached past q && not (is_collected past q)) ≡ b
waits_at_is ring here tickets closed slots past q b k l e =
    let full : length slots ≡ 256 = k.full in
    let d : Slot = some_slot q slots (omega (arith, full, l)) in
    let w = (k.each q d l).words in
    sym (e d ∙ (ap (λ z. z && not (get_or slots q d).collected) w.attached ∙ ap (λ z. is_attached past q && not z) w.collected))

-- a query that does not run and was not collected may be
pub may_collect : (ring : ℕ) (past : Journal) (s q : ℕ) → is_running past q ≡ false → (is_attached past q && not (is_collected past q)) ≡ true → MayFollow ring past (Collect s q)
may_collect ring past s q r w = let a = and_parts (is_attached past q) _ w in record { ended = and_from _ _ a.0 (not_from_false _ r); not_yet = not-true _ a.1 }

-- whether a query runs, by its slot or by its number
pub runs_at_told : {ring here tickets : ℕ} {closed : Bool} {slots : List Slot} {past : Journal} → Kept ring here tickets closed slots past → (q : ℕ) (b : Bool) → (q < 256 → (d : Slot) → b ≡ runs (get_or slots q d)) → (256 ≤ q → b ≡ false) → b ≡ is_running past q
runs_at_told {past = past} k q b known beyond = ⊎_elim
    (λ l. sym (runs_at_is _ _ _ _ _ _ q b k l (known l)))
    (λ h. beyond h ∙ sym (false_from_ne_true _ (λ r. let low = (attached_low past q k.run (and_parts _ _ (and_parts _ _ r).0).0).1 in omega (arith, h, low))))
    (cases_lt q 256)

-- whether it was attached and not collected
pub waits_at_told : {ring here tickets : ℕ} {closed : Bool} {slots : List Slot} {past : Journal} → Kept ring here tickets closed slots past → (q : ℕ) (b : Bool) → (q < 256 → (d : Slot) → b ≡ waits (get_or slots q d)) → (256 ≤ q → b ≡ false) → b ≡ (is_attached past q && not (is_collected past q))
waits_at_told {past = past} k q b known beyond = ⊎_elim
    (λ l. sym (waits_at_is _ _ _ _ _ _ q b k l (known l)))
    (λ h. beyond h ∙ sym (false_from_ne_true _ (λ r. let low = (attached_low past q k.run (and_parts _ _ r).0).1 in omega (arith, h, low))))
    (cases_lt q 256)
