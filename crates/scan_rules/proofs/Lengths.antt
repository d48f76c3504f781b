-- How many lines of each kind a run has.
use Rattle.std.proofs.Common.{◌≡◌, ℕ, ◌+◌, ◌<◌, ◌≤◌, ◌==◌, List, [], ◌∷◌, ◌++◌, length, Bool, true, false, not, ⊎_elim, refl, sym, subst, arith, count_by, eq-eqb, eqb-true, ◌-◌, ◌*◌, ◌^◌}
use Rattle.std.specs.List.{list_any}
use Rattle.std.proofs.lemmas.Bool.{and_parts, or_cases, and_from, false≢true, not-true, not_from_false}
use Rattle.scan_rules.specs.declared.journal_line.JournalLine.{JournalLine}
use Rattle.scan_rules.specs.declared.journal_line.JournalLine.TheVariants.{Attach, Take, Deliver, Cancel, Collect, Close}
use Rattle.scan_rules.proofs.Lists.{any_cases, any_stays, any_weaker, count_cons, count_push, cover, weight}
use Rattle.scan_rules.proofs.Runs.{front_runs, once, run_ind}
use Rattle.scan_rules.proofs.Scan.{attached_low, chosen, needed_query, wanted_low}
use Rattle.scan_rules.proofs.Serving.{needs_takes, needs_tells, server_needs, taker_needs}
use Rattle.scan_rules.specs.Lines.{attaches, cancels, closes, collects, delivers, has_ticket, is_attach, is_cancel, is_collect, is_deliver, names, serves, takes, took}
use Rattle.scan_rules.specs.Numbers.{has}
use Rattle.scan_rules.specs.Queries.{Journal, is_attached, is_cancelled, is_closed, is_collected, is_delivered, is_running, is_standing}
use Rattle.scan_rules.specs.Runs.{IsRun, MayFollow}
use Rattle.scan_rules.specs.Scan.{is_needed, needs}

-- a running query is attached and not cancelled
running_tells : (past : Journal) (q : ℕ) → is_running past q ≡ true → (is_attached past q ≡ true) × (is_cancelled past q ≡ false)
running_tells past q h =
    let a = and_parts (is_standing past q) _ h in
    let b = and_parts (is_attached past q) _ a.0 in
    (b.0, not-true _ (and_parts (not (is_cancelled past q)) _ b.1).0)

-- a number from 1 to 255 is one more than a number below 255
abbrev Below255 : (ℕ → JournalLine → Bool) → JournalLine → Type 0
Below255 f line = (i : ℕ) × (i < 255) × (f (i + 1) line ≡ true)

-- so a test of a query is a test of such a number
pub counted : (f : ℕ → JournalLine → Bool) (line : JournalLine) (q : ℕ) → (1 ≤ q) × (q < 256) → f q line ≡ true → Below255 f line
counted f line q l h = let a = l.0 in let b = l.1 in (q - 1, omega (arith, a, b), subst (λ z. f z line ≡ true) (omega (arith, a)) h)

-- who took with a ticket has it
pub took_ticket : (s t : ℕ) (line : JournalLine) → took s t line ≡ true → has_ticket t line ≡ true
took_ticket s t (Take u v c queries) h = (and_parts _ _ h).1
took_ticket s t (Attach u p chunks) h = h
took_ticket s t (Deliver u v queries) h = h
took_ticket s t (Cancel u p) h = h
took_ticket s t (Collect u p) h = h
took_ticket s t (Close u) h = h

-- a line is of one of six kinds
kinds : (line : JournalLine) → weight (is_attach line) + weight (takes line) + weight (is_deliver line) + weight (is_cancel line) + weight (is_collect line) + weight (closes line) ≡ 1
kinds (Attach s q chunks) = omega arith
kinds (Take s t c queries) = omega arith
kinds (Deliver s t queries) = omega arith
kinds (Cancel s q) = omega arith
kinds (Collect s q) = omega arith
kinds (Close s) = omega arith

-- a journal is as long as its lines of all kinds
by_kind : (past : Journal) → length past ≡ count_by is_attach past + count_by takes past + count_by is_deliver past + count_by is_cancel past + count_by is_collect past + count_by closes past
by_kind [] = refl
by_kind (line ∷ past) =
    let i = by_kind past in
    let k = kinds line in
    let a : count_by is_attach (line ∷ past) ≡ weight (is_attach line) + count_by is_attach past = count_cons is_attach line past in
    let b : count_by takes (line ∷ past) ≡ weight (takes line) + count_by takes past = count_cons takes line past in
    let c : count_by is_deliver (line ∷ past) ≡ weight (is_deliver line) + count_by is_deliver past = count_cons is_deliver line past in
    let d : count_by is_cancel (line ∷ past) ≡ weight (is_cancel line) + count_by is_cancel past = count_cons is_cancel line past in
    let e : count_by is_collect (line ∷ past) ≡ weight (is_collect line) + count_by is_collect past = count_cons is_collect line past in
    let f : count_by closes (line ∷ past) ≡ weight (closes line) + count_by closes past = count_cons closes line past in
    omega (arith, i, k, a, b, c, d, e, f)

module _ {ring : ℕ} where
  pub attached_once : (past : Journal) (q : ℕ) → IsRun ring past → count_by (attaches q) past ≤ 1
  attached_once past q r = once (attaches q) new past r where
    new : (front : Journal) (line : JournalLine) → MayFollow ring front line → attaches q line ≡ true → is_attached front q ≡ false
    new front (Attach s p chunks) m h = subst (λ z. is_attached front z ≡ false) (eqb-true p q h) m.fresh
    new front (Take s t c queries) m h = absurd (false≢true h)
    new front (Deliver s t queries) m h = absurd (false≢true h)
    new front (Cancel s p) m h = absurd (false≢true h)
    new front (Collect s p) m h = absurd (false≢true h)
    new front (Close s) m h = absurd (false≢true h)

  pub cancelled_once : (past : Journal) (q : ℕ) → IsRun ring past → count_by (cancels q) past ≤ 1
  cancelled_once past q r = once (cancels q) new past r where
    new : (front : Journal) (line : JournalLine) → MayFollow ring front line → cancels q line ≡ true → is_cancelled front q ≡ false
    new front (Cancel s p) m h = subst (λ z. is_cancelled front z ≡ false) (eqb-true p q h) (running_tells front p m).1
    new front (Attach s p chunks) m h = absurd (false≢true h)
    new front (Take s t c queries) m h = absurd (false≢true h)
    new front (Deliver s t queries) m h = absurd (false≢true h)
    new front (Collect s p) m h = absurd (false≢true h)
    new front (Close s) m h = absurd (false≢true h)

  pub collected_once : (past : Journal) (q : ℕ) → IsRun ring past → count_by (collects q) past ≤ 1
  collected_once past q r = once (collects q) new past r where
    new : (front : Journal) (line : JournalLine) → MayFollow ring front line → collects q line ≡ true → is_collected front q ≡ false
    new front (Collect s p) m h = subst (λ z. is_collected front z ≡ false) (eqb-true p q h) m.not_yet
    new front (Attach s p chunks) m h = absurd (false≢true h)
    new front (Take s t c queries) m h = absurd (false≢true h)
    new front (Deliver s t queries) m h = absurd (false≢true h)
    new front (Cancel s p) m h = absurd (false≢true h)
    new front (Close s) m h = absurd (false≢true h)

  pub closed_once : (past : Journal) → IsRun ring past → count_by closes past ≤ 1
  closed_once past r = once closes new past r where
    new : (front : Journal) (line : JournalLine) → MayFollow ring front line → closes line ≡ true → is_closed front ≡ false
    new front (Close s) m h = m
    new front (Attach s p chunks) m h = absurd (false≢true h)
    new front (Take s t c queries) m h = absurd (false≢true h)
    new front (Deliver s t queries) m h = absurd (false≢true h)
    new front (Cancel s p) m h = absurd (false≢true h)
    new front (Collect s p) m h = absurd (false≢true h)

  pub delivered_once : (past : Journal) (t : ℕ) → IsRun ring past → count_by (delivers t) past ≤ 1
  delivered_once past t r = once (delivers t) new past r where
    new : (front : Journal) (line : JournalLine) → MayFollow ring front line → delivers t line ≡ true → is_delivered front t ≡ false
    new front (Deliver s u queries) m h = subst (λ z. is_delivered front z ≡ false) (eqb-true u t h) m.in_flight
    new front (Attach s p chunks) m h = absurd (false≢true h)
    new front (Take s u c queries) m h = absurd (false≢true h)
    new front (Cancel s p) m h = absurd (false≢true h)
    new front (Collect s p) m h = absurd (false≢true h)
    new front (Close s) m h = absurd (false≢true h)

  -- tickets are counted
  pub ticket_low : (past : Journal) (t : ℕ) → IsRun ring past → list_any (has_ticket t) past ≡ true → t < count_by takes past
  ticket_low past t r = run_ind (λ front. list_any (has_ticket t) front ≡ true → t < count_by takes front) (λ h. absurd (false≢true h)) (λ front line run m i h.
      let e : count_by takes (front ++ line ∷ []) ≡ count_by takes front + weight (takes line) = count_push takes front line in
      ⊎_elim (λ a. let l : t < count_by takes front = i a in omega (arith, e, l)) (λ a. subst (λ n. t < n) (sym e) (low front line m (⊎_elim (λ u. u) (λ u. absurd (false≢true u)) (or_cases (has_ticket t line) false a)))) (any_cases (has_ticket t) front (line ∷ []) h)) past r where
        low : (front : Journal) (line : JournalLine) → MayFollow ring front line → has_ticket t line ≡ true → t < count_by takes front + weight (takes line)
        low front (Take s u c queries) m h = let e : u ≡ t = eqb-true u t h in let n : u ≡ count_by takes front = m.counted in omega (arith, e, n)
        low front (Attach s p chunks) m h = absurd (false≢true h)
        low front (Deliver s u queries) m h = absurd (false≢true h)
        low front (Cancel s p) m h = absurd (false≢true h)
        low front (Collect s p) m h = absurd (false≢true h)
        low front (Close s) m h = absurd (false≢true h)

  served_at_most : (past : Journal) (q c : ℕ) → IsRun ring past → count_by (serves q c) past ≤ 1
  served_at_most past q c r = once (serves q c) (λ front line m h. (server_needs ring front line q c m h).unmet) past r

  -- takes for one query
  named_few : (past : Journal) (q : ℕ) → IsRun ring past → count_by (names q) past ≤ ring * 1
  named_few past q r = cover ring 1 (names q) (serves q) past (λ before line rest e h. each before line (front_runs before (line ∷ rest) (subst (IsRun ring) e r)) (r.follows before line rest e) h) (λ c _. served_at_most past q c r) where
    each : (front : Journal) (line : JournalLine) → IsRun ring front → MayFollow ring front line → names q line ≡ true → (c : ℕ) × (c < ring) × (serves q c line ≡ true)
    each front (Take s t c queries) run m h =
        let n = needs_tells front q c (taker_needs front c q (subst (λ (l : List ℕ). has l q ≡ true) m.all h)) in
        (c, (wanted_low front q c run n.wants).0, and_from (c == c) _ (eq-eqb c c refl) h)
    each front (Attach s p chunks) run m h = absurd (false≢true h)
    each front (Deliver s t queries) run m h = absurd (false≢true h)
    each front (Cancel s p) run m h = absurd (false≢true h)
    each front (Collect s p) run m h = absurd (false≢true h)
    each front (Close s) run m h = absurd (false≢true h)

  takes_few : (past : Journal) → IsRun ring past → count_by takes past ≤ 255 * (ring * 1)
  takes_few past r = cover 255 (ring * 1) takes (λ i. names (i + 1)) past (λ before line rest e h. each before line (front_runs before (line ∷ rest) (subst (IsRun ring) e r)) (r.follows before line rest e) h) (λ i _. named_few past (i + 1) r) where
    each : (front : Journal) (line : JournalLine) → IsRun ring front → MayFollow ring front line → takes line ≡ true → Below255 names line
    each front (Take s t c queries) run m h =
        let w = chosen ring front c m.next in
        let n = needed_query front c (subst (λ z. is_needed front z ≡ true) (sym w.here) w.first.passes) in
        let low = attached_low front n.0 run n.1.attached in
        let needs_it : needs front n.0 c ≡ true = and_from _ _ n.1.running (and_from _ _ n.1.wants (not_from_false _ n.1.unmet)) in
        counted names (Take s t c queries) n.0 low (subst (λ (l : List ℕ). has l n.0 ≡ true) (sym m.all) (needs_takes front c n.0 low.1 needs_it))
    each front (Attach s p chunks) run m h = absurd (false≢true h)
    each front (Deliver s t queries) run m h = absurd (false≢true h)
    each front (Cancel s p) run m h = absurd (false≢true h)
    each front (Collect s p) run m h = absurd (false≢true h)
    each front (Close s) run m h = absurd (false≢true h)

  attaches_few : (past : Journal) → IsRun ring past → count_by is_attach past ≤ 255 * 1
  attaches_few past r = cover 255 1 is_attach (λ i. attaches (i + 1)) past (λ before line rest e h. each before line (r.follows before line rest e) h) (λ i _. attached_once past (i + 1) r) where
    each : (front : Journal) (line : JournalLine) → MayFollow ring front line → is_attach line ≡ true → Below255 attaches line
    each front (Attach s q chunks) m h = counted attaches (Attach s q chunks) q (m.from_1, m.to_255) (eq-eqb q q refl)
    each front (Take s t c queries) m h = absurd (false≢true h)
    each front (Deliver s t queries) m h = absurd (false≢true h)
    each front (Cancel s p) m h = absurd (false≢true h)
    each front (Collect s p) m h = absurd (false≢true h)
    each front (Close s) m h = absurd (false≢true h)

  cancels_few : (past : Journal) → IsRun ring past → count_by is_cancel past ≤ 255 * 1
  cancels_few past r = cover 255 1 is_cancel (λ i. cancels (i + 1)) past (λ before line rest e h. each before line (front_runs before (line ∷ rest) (subst (IsRun ring) e r)) (r.follows before line rest e) h) (λ i _. cancelled_once past (i + 1) r) where
    each : (front : Journal) (line : JournalLine) → IsRun ring front → MayFollow ring front line → is_cancel line ≡ true → Below255 cancels line
    each front (Cancel s q) run m h = counted cancels (Cancel s q) q (attached_low front q run (running_tells front q m).0) (eq-eqb q q refl)
    each front (Take s t c queries) run m h = absurd (false≢true h)
    each front (Deliver s t queries) run m h = absurd (false≢true h)
    each front (Attach s p chunks) run m h = absurd (false≢true h)
    each front (Collect s p) run m h = absurd (false≢true h)
    each front (Close s) run m h = absurd (false≢true h)

  collects_few : (past : Journal) → IsRun ring past → count_by is_collect past ≤ 255 * 1
  collects_few past r = cover 255 1 is_collect (λ i. collects (i + 1)) past (λ before line rest e h. each before line (front_runs before (line ∷ rest) (subst (IsRun ring) e r)) (r.follows before line rest e) h) (λ i _. collected_once past (i + 1) r) where
    each : (front : Journal) (line : JournalLine) → IsRun ring front → MayFollow ring front line → is_collect line ≡ true → Below255 collects line
    each front (Collect s q) run m h = counted collects (Collect s q) q (attached_low front q run (and_parts _ _ m.ended).0) (eq-eqb q q refl)
    each front (Take s t c queries) run m h = absurd (false≢true h)
    each front (Deliver s t queries) run m h = absurd (false≢true h)
    each front (Attach s p chunks) run m h = absurd (false≢true h)
    each front (Cancel s p) run m h = absurd (false≢true h)
    each front (Close s) run m h = absurd (false≢true h)

  delivers_cover : (past : Journal) → IsRun ring past → count_by is_deliver past ≤ count_by takes past * 1
  delivers_cover past r = cover (count_by takes past) 1 is_deliver delivers past
      (λ before line rest e h. let w = each before line (r.follows before line rest e) h in
      (w.0, ticket_low past w.0 r (subst (λ (j : Journal). list_any (has_ticket w.0) j ≡ true) (sym e) (any_stays (has_ticket w.0) before (line ∷ rest) w.1)), w.2))
      (λ t _. delivered_once past t r) where
        each : (front : Journal) (line : JournalLine) → MayFollow ring front line → is_deliver line ≡ true → (t : ℕ) × (list_any (has_ticket t) front ≡ true) × (delivers t line ≡ true)
        each front (Deliver s t queries) m h = (t, any_weaker (took s t) (has_ticket t) (took_ticket s t) front m.same_seat, eq-eqb t t refl)
        each front (Take s t c queries) m h = absurd (false≢true h)
        each front (Attach s p chunks) m h = absurd (false≢true h)
        each front (Cancel s p) m h = absurd (false≢true h)
        each front (Collect s p) m h = absurd (false≢true h)
        each front (Close s) m h = absurd (false≢true h)

  -- no more is delivered than was taken
  pub delivers_few : (past : Journal) → IsRun ring past → count_by is_deliver past ≤ count_by takes past
  delivers_few past r = let few : count_by is_deliver past ≤ count_by takes past * 1 = delivers_cover past r in omega (arith, few)

  -- a run over a ring of 16,384 chunks at most has fewer than 2^23 lines
  pub run_is_short : (past : Journal) → ring ≤ 16384 → IsRun ring past → length past < 2 ^ 23
  run_is_short past small r =
      let k = by_kind past in
      let a = attaches_few past r in
      let b = takes_few past r in
      let c = delivers_few past r in
      let d = cancels_few past r in
      let e = collects_few past r in
      let f = closed_once past r in
      omega (arith, k, a, b, c, d, e, f)
