-- The least step over the slots leads to the chunk that the scan takes next, and its slots to the takers.
use Rattle.std.proofs.Common.{IfSome, length-append, ◌≡◌, ℕ, ◌+◌, ◌^◌, ◌-◌, ◌<◌, ◌≤◌, ◌==◌, List, [], ◌∷◌, ◌++◌, length, get_or, Bool, true, false, not, ◌&&◌, cond, Option, Some, None, min, zero, suc, ◌⊎◌, inl, inr, ⊎_elim, refl, sym, ◌∙◌, ap, subst, arith, count_by, option_map, option_to_list, slice_get, ne_eqb, eq-eqb, eqb-true, append_assoc}
use Rattle.std.specs.List.{last_or}
use Rattle.std.proofs.lemmas.Bool.{and_parts, or_cases, cases_Bool, cases_eq, cases_lt, and_from, false_from_ne_true, both_ways, not-true, not_from_false, or_left, false≢true}
use Rattle.std.proofs.lemmas.List.Elements.{filter-append}
use Rattle.std.proofs.lemmas.List.Sums.{length-filter}
use Rattle.scan_rules.specs.declared.journal_line.JournalLine.{JournalLine}
use Rattle.scan_rules.specs.declared.journal_line.JournalLine.TheVariants.{Take}
use Rattle.scan_rules.proofs.Lengths.{run_is_short}
use Rattle.scan_rules.proofs.Lists.{any_cases, any_later, any_none, any_stays, count_push, last_push}
use Rattle.scan_rules.proofs.Numbers.{below_has, count_le, kept_there}
use Rattle.scan_rules.proofs.Ring.{at_at, at_off, at_within, next_low, off_at, off_within}
use Rattle.scan_rules.proofs.Runs.{run_more}
use Rattle.scan_rules.proofs.Scan.{attached_low, needed_from, needed_query, place_low, place_take, wanted_low}
use Rattle.scan_rules.proofs.Serving.{needs_takes, needs_tells}
use Rattle.scan_rules.specs.Lines.{closes, takes}
use Rattle.scan_rules.specs.Numbers.{below, has}
use Rattle.scan_rules.specs.Queries.{Journal, is_running}
use Rattle.scan_rules.specs.Runs.{MayFollow}
use Rattle.scan_rules.specs.Scan.{running_count, chunk_at, is_needed, needs, next_chunk, place, takers}
use Rattle.scan_core.specs.declared.slot.Slot.{Slot}
use Rattle.scan_core.specs.Kept.{Fits, Kept, IsAhead}
use Rattle.scan_core.specs.Taking.{CanServe, next_of, step_from, first_step, least_from, is_at, is_next, served, Popped, PoppedAt, PoppedAll}
use Rattle.scan_core.proofs.Words.{words_same}
use Rattle.scan_rules.proofs.Finding.{all_fail_below, filter_below, find_is, find_none, has_end, has_last, last_is}
use Rattle.scan_rules.proofs.Going.{ascend_same, calm_take, count_same, needs_take, tickets_short}
use Rattle.scan_rules.specs.Scan.{offset}

-- what a slot needs lies no nearer than what it needs next
pub next_nearest : (ring p : ℕ) (chunks : List ℕ) (x : ℕ) → IsAhead ring p chunks → has chunks x ≡ true → (c : ℕ) × (last_or None chunks ≡ Some c) × ((x ≡ c) ⊎ (offset ring p c < offset ring p x))
next_nearest ring p chunks x a h =
    let l = has_last None chunks x h in
    let f = last_is chunks l.0 l.1 in (
      l.0,
      l.1,
      ⊎_elim
          (λ t. inr (a.nearer f.0 l.0 [] x f.1 t))
          (λ t. inl (sym (eqb-true l.0 x (⊎_elim (λ u. u) (λ u. absurd (false≢true u)) (or_cases (l.0 == x) false t)))))
          (any_cases (λ y. y == x) f.0 (l.0 ∷ []) (subst (λ (z : List ℕ). has z x ≡ true) f.1 h)),
    )

-- the least is no more than any, and is one of them or the start
pub least_low : (ring p best : ℕ) (slots : List Slot) → least_from ring p best slots ≤ best
least_low ring p best [] = omega arith
least_low ring p best (s ∷ ss) = let i : least_from ring p (min best (first_step ring p s)) ss ≤ min best (first_step ring p s) = least_low ring p (min best (first_step ring p s)) ss in omega (arith, i)

-- it is no more than the step of each slot
pub least_each : (ring p best : ℕ) (slots : List Slot) (q : ℕ) (d : Slot) → q < length slots → least_from ring p best slots ≤ first_step ring p (get_or slots q d)
least_each ring p best [] q d l = absurd (omega (arith, l))
least_each ring p best (s ∷ ss) zero d l = let i : least_from ring p (min best (first_step ring p s)) ss ≤ min best (first_step ring p s) = least_low ring p (min best (first_step ring p s)) ss in omega (arith, i)
least_each ring p best (s ∷ ss) (suc q) d l = least_each ring p (min best (first_step ring p s)) ss q d (omega (arith, l))

-- and it is the start or the step of some slot
pub least_found : (ring p best : ℕ) (slots : List Slot) (d : Slot) → (least_from ring p best slots ≡ best) ⊎ ((q : ℕ) × (q < length slots) × (least_from ring p best slots ≡ first_step ring p (get_or slots q d)))
least_found ring p best [] d = inl refl
least_found ring p best (s ∷ ss) d = ⊎_elim
    (λ e. ⊎_elim
    (λ l. inr (zero, omega arith, e ∙ (let m : min best (first_step ring p s) ≡ first_step ring p s = omega (arith, l) in m)))
    (λ l. inl (e ∙ (let m : min best (first_step ring p s) ≡ best = omega (arith, l) in m)))
    (cases_lt (first_step ring p s) best))
    (λ f. let l : f.0 < length ss = f.1 in inr (suc f.0, omega (arith, l), f.2))
    (least_found ring p (min best (first_step ring p s)) ss d)

-- some slot, for the default of a read
some_slot : (xs : List Slot) → 0 < length xs → Slot
some_slot [] h = absurd (omega (arith, h))
some_slot (x ∷ xs) h = x

-- from the place the scan now takes the chunk d steps on
pub record Nearest (ring : ℕ) (slots : List Slot) (past : Journal) (d c : ℕ) : Type 0 where
  pub low : d < ring
  pub here : c ≡ chunk_at ring (place ring past) d
  pub chunk_low : c < ring
  pub off : offset ring (place ring past) c ≡ d
  pub each : (q : ℕ) (s : Slot) → q < 256 → d ≤ first_step ring (place ring past) (get_or slots q s)

module _ {ring here tickets : ℕ} {closed : Bool} {slots : List Slot} {past : Journal} where
  -- the place lies on the ring
  place_within : Kept ring here tickets closed slots past → 0 < ring → place ring past < ring
  place_within k l = place_low past l k.run

  -- what is needed has numbers in range
  low_query : Kept ring here tickets closed slots past → (q c : ℕ) → needs past q c ≡ true → (q < 256) × (c < ring)
  low_query k q c n = let t = needs_tells past q c n in ((attached_low past q k.run t.attached).1, (wanted_low past q c k.run t.wants).0)

  -- the least step leads to the nearest chunk
  pub nearest : Kept ring here tickets closed slots past → (d c : ℕ) → d ≡ least_from ring (place ring past) ring slots → d < ring → c ≡ chunk_at ring (place ring past) d → Nearest ring slots past d c
  nearest k d c e l h =
      let p : place ring past < ring = place_within k (omega (arith, l)) in
      let full : length slots ≡ 256 = k.full in
      record {
        low = l;
        here = h;
        chunk_low = subst (λ z. z < ring) (sym h) (at_within ring (place ring past) d p l);
        off = subst (λ z. offset ring (place ring past) z ≡ d) (sym h) (off_at ring (place ring past) d p l);
        each = λ q s b. subst (λ z. z ≤ first_step ring (place ring past) (get_or slots q s)) (sym e) (least_each ring (place ring past) ring slots q s (omega (arith, b, full)));
      }

  -- which slots need the nearest chunk
  pub next_needs : Kept ring here tickets closed slots past → (d c : ℕ) → Nearest ring slots past d c → (q : ℕ) (s : Slot) → q < 256 → is_next c (get_or slots q s) ≡ needs past q c
  next_needs k d c n q s l = ⊎_elim
      (λ t. t ∙ sym (there t))
      (λ f. f ∙ sym (false_from_ne_true _ (λ h. both_ways _ f (back h))))
      (cases_Bool (is_next c (get_or slots q s))) where
        fit : Fits ring past q (get_or slots q s)
        fit = k.each q s l

        at_is : (o : Option ℕ) → is_at c o ≡ true → o ≡ Some c
        at_is None h = absurd (false≢true h)
        at_is (Some x) h = ap (λ z. Some z) (eqb-true x c h)

        is_at_from : (o : Option ℕ) (x : ℕ) → o ≡ Some x → x ≡ c → is_at c o ≡ true
        is_at_from o x e g = subst (λ z. is_at c z ≡ true) (sym e) (eq-eqb x c g)

        there : is_next c (get_or slots q s) ≡ true → needs past q c ≡ true
        there t = let f = last_is (get_or slots q s).ahead.items c (at_is _ t) in sym (fit.ahead c) ∙ (ap (λ (z : List ℕ). has z c) f.1 ∙ has_end f.0 c)

        back : needs past q c ≡ true → is_next c (get_or slots q s) ≡ true
        back h = let w = next_nearest ring (place ring past) (get_or slots q s).ahead.items c fit.ordered (fit.ahead c ∙ h) in
            is_at_from (next_of (get_or slots q s)) w.0 w.1 (⊎_elim (λ e. sym e) (λ m.
            let a : d ≤ step_from ring (place ring past) (next_of (get_or slots q s)) = n.each q s l in
            let b : d ≤ offset ring (place ring past) w.0 = subst (λ z. d ≤ step_from ring (place ring past) z) w.1 a in
            let o : offset ring (place ring past) c ≡ d = n.off in
            absurd (omega (arith, b, o, m))) w.2)

  -- nothing that is needed lies nearer
  pub not_nearer : Kept ring here tickets closed slots past → (d : ℕ) → d ≡ least_from ring (place ring past) ring slots → (e : ℕ) → e < ring → e < d → is_needed past (chunk_at ring (place ring past) e) ≡ false
  not_nearer k d h e le l = false_from_ne_true _ (λ t.
      let p : place ring past < ring = place_within k (omega (arith, le)) in
      let x : ℕ = chunk_at ring (place ring past) e in
      let w = needed_query past x t in
      let low = attached_low past w.0 k.run w.1.attached in
      let full : length slots ≡ 256 = k.full in
      let s : Slot = some_slot slots (omega (arith, full)) in
      let fit = k.each w.0 s low.1 in
      let nd : needs past w.0 x ≡ true = and_from _ _ w.1.running (and_from _ _ w.1.wants (not_from_false _ w.1.unmet)) in
      let v = next_nearest ring (place ring past) (get_or slots w.0 s).ahead.items x fit.ordered (fit.ahead x ∙ nd) in
      let off : offset ring (place ring past) x ≡ e = off_at ring (place ring past) e p le in
      let a : least_from ring (place ring past) ring slots ≤ step_from ring (place ring past) (next_of (get_or slots w.0 s)) = least_each ring (place ring past) ring slots w.0 s (let q = low.1 in omega (arith, q, full)) in
      let b : least_from ring (place ring past) ring slots ≤ offset ring (place ring past) v.0 = subst (λ z. least_from ring (place ring past) ring slots ≤ step_from ring (place ring past) z) v.1 a in
      ⊎_elim (λ g. let c : offset ring (place ring past) v.0 ≡ e = subst (λ z. offset ring (place ring past) z ≡ e) g off in omega (arith, b, c, h, l)) (λ g. omega (arith, b, g, off, h, l)) v.2)

  -- where it is the length of the ring, nothing is needed
  pub next_none : Kept ring here tickets closed slots past → (d : ℕ) → d ≡ least_from ring (place ring past) ring slots → ring ≤ d → next_chunk ring past ≡ None
  next_none k d h l = ap (option_map (chunk_at ring (place ring past))) (find_none _ (below ring) (all_fail_below (λ e. is_needed past (chunk_at ring (place ring past) e)) ring (λ e m. not_nearer k d h e m (omega (arith, l, m)))))

  -- else the nearest chunk is the next one
  pub next_is : Kept ring here tickets closed slots past → (d c : ℕ) → d ≡ least_from ring (place ring past) ring slots → (n : Nearest ring slots past d c) → next_chunk ring past ≡ Some c
  next_is k d c h n = ap (option_map (chunk_at ring (place ring past))) (find_is _ ring d (record { low = n.low; passes = subst (λ z. is_needed past z ≡ true) n.here needed; before = λ e m. let l = n.low in not_nearer k d h e (omega (arith, l, m)) m })) ∙ ap (λ z. Some z) (sym n.here) where
    full : length slots ≡ 256
    full = k.full

    s : Slot
    s = some_slot slots (omega (arith, full))

    at_step : (o : Option ℕ) → d ≡ step_from ring (place ring past) o → (x : ℕ) × (o ≡ Some x) × (offset ring (place ring past) x ≡ d)
    at_step None e = let l = n.low in absurd (omega (arith, e, l))
    at_step (Some x) e = (x, refl, sym e)

    needed : is_needed past c ≡ true
    needed = ⊎_elim
        (λ e. let l = n.low in absurd (omega (arith, e, l, h)))
        (λ f. let low : f.0 < 256 = (let b = f.1 in omega (arith, b, full)) in
        let v = at_step (next_of (get_or slots f.0 s)) (h ∙ f.2) in
        let w = last_is (get_or slots f.0 s).ahead.items v.0 v.1 in
        let nd : needs past f.0 v.0 ≡ true = sym ((k.each f.0 s low).ahead v.0) ∙ (ap (λ (z : List ℕ). has z v.0) w.1 ∙ has_end w.0 v.0) in
        let b = low_query k f.0 v.0 nd in
        let lr = n.low in
        let p : place ring past < ring = place_within k (omega (arith, lr)) in
        let same : v.0 ≡ c = sym (at_off ring (place ring past) v.0 p b.1) ∙ (ap (chunk_at ring (place ring past)) v.2 ∙ sym n.here) in
        needed_from past f.0 c low (subst (λ z. needs past f.0 z ≡ true) same nd))
        (least_found ring (place ring past) ring slots s)

  -- and the slots that need it are its takers
  pub served_is : Kept ring here tickets closed slots past → (d c : ℕ) → Nearest ring slots past d c → (s : Slot) → served slots s c 256 ≡ takers past c
  served_is k d c n s = filter_below 256 (λ q. is_next c (get_or slots q s)) (λ q. needs past q c) (λ q l. next_needs k d c n q s l)

-- behind the chunk d steps on, all that lies further is d and one steps nearer
shift : (ring p d c x : ℕ) → p < ring → d < ring → x < ring → c ≡ chunk_at ring p d → d < offset ring p x → offset ring (chunk_at ring c 1) x ≡ offset ring p x - d - 1
shift ring p d c x lp ld lx e far =
    let sx : ℕ = offset ring p x in
    let low : offset ring p x < ring = off_within ring p x lp lx in
    let more : d + 1 < ring = omega (arith, low, far) in
    let here : chunk_at ring c 1 ≡ chunk_at ring p (d + 1) = ap (λ z. chunk_at ring z 1) e ∙ at_at ring p d 1 lp more in
    let lq : chunk_at ring p (d + 1) < ring = at_within ring p (d + 1) lp more in
    let rest : d + 1 + (offset ring p x - d - 1) ≡ offset ring p x = omega (arith, far) in
    let there : chunk_at ring (chunk_at ring p (d + 1)) (offset ring p x - d - 1) ≡ x = at_at ring p (d + 1) (offset ring p x - d - 1) lp (omega (arith, rest, low)) ∙ (ap (chunk_at ring p) rest ∙ at_off ring p x lp lx) in
    ap (λ z. offset ring z x) here ∙ (ap (offset ring (chunk_at ring p (d + 1))) (sym there) ∙ off_at ring (chunk_at ring p (d + 1)) (offset ring p x - d - 1) lq (omega (arith, low)))

module _ {ring here tickets : ℕ} {closed : Bool} {slots : List Slot} {past : Journal} where
  -- what a slot still needs lies beyond
  beyond : Kept ring here tickets closed slots past → (d c : ℕ) → Nearest ring slots past d c → (q : ℕ) (s : Slot) → q < 256 → (new : Slot) → Popped c (get_or slots q s) new → (y : ℕ) → has new.ahead.items y ≡ true → (y < ring) × (has (get_or slots q s).ahead.items y ≡ true) × (d < offset ring (place ring past) y)
  beyond k d c n q s l new pop y h = ⊎_elim
      (λ t. let e = pop.next t in
      let o : has (get_or slots q s).ahead.items y ≡ true = ap (λ (z : List ℕ). has z y) e ∙ any_stays (λ z. z == y) new.ahead.items (c ∷ []) h in
      let m : offset ring (place ring past) c < offset ring (place ring past) y = fit.ordered.nearer new.ahead.items c [] y e h in
      let off : offset ring (place ring past) c ≡ d = n.off in
      ((low_query k q y (sym (fit.ahead y) ∙ o)).1, o, omega (arith, m, off)))
      (λ t. let o : has (get_or slots q s).ahead.items y ≡ true = sym (ap (λ (z : List ℕ). has z y) (pop.kept t)) ∙ h in
      let ly = (low_query k q y (sym (fit.ahead y) ∙ o)).1 in
      let v = next_nearest ring (place ring past) (get_or slots q s).ahead.items y fit.ordered o in
      let a : d ≤ step_from ring (place ring past) (next_of (get_or slots q s)) = n.each q s l in
      let b : d ≤ offset ring (place ring past) v.0 = subst (λ z. d ≤ step_from ring (place ring past) z) v.1 a in (
        ly,
        o,
        ⊎_elim
            (λ g. let b2 : d ≤ offset ring (place ring past) y = subst (λ z. d ≤ offset ring (place ring past) z) (sym g) b in
            ⊎_elim
            (λ e. let lr = n.low in
            let p : place ring past < ring = place_within k (omega (arith, lr)) in
            let same : y ≡ c = sym (at_off ring (place ring past) y p ly) ∙ (ap (chunk_at ring (place ring past)) e ∙ sym n.here) in
            absurd (both_ways _ t (next_needs k d c n q s l ∙ subst (λ z. needs past q z ≡ true) same (sym (fit.ahead y) ∙ o))))
            (λ ne. omega (arith, b2, ne))
            (cases_eq (offset ring (place ring past) y) d))
            (λ g. omega (arith, b, g))
            v.2,
      ))
      (cases_Bool (is_next c (get_or slots q s))) where
        fit : Fits ring past q (get_or slots q s)
        fit = k.each q s l

  -- the slot of a query after a Take
  popped_fits : Kept ring here tickets closed slots past → (d c : ℕ) → Nearest ring slots past d c → (s t : ℕ) (queries : List ℕ) → MayFollow ring past (Take s t c queries) → (q : ℕ) (b : Slot) → q < 256 → (new : Slot) → Popped c (get_or slots q b) new → Fits ring (past ++ Take s t c queries ∷ []) q new
  popped_fits k d c n s t queries m q b l new pop = record {
    words = words_same ring past line q new k.run m (calm_take s t c queries q) refl (record {
      attached = pop.attached ∙ fit.words.attached;
      cancelled = pop.cancelled ∙ fit.words.cancelled;
      lost = pop.lost ∙ fit.words.lost;
      collected = pop.collected ∙ fit.words.collected;
      owed = pop.owed ∙ fit.words.owed;
    });
    ahead = λ x. members x ∙ sym (needs_take ring past s t c queries q x k.run m);
    ordered = subst (λ p. IsAhead ring p new.ahead.items) (sym (place_take ring past s t c queries)) (record { nearer = nearer });
  } where
    line : JournalLine
    line = Take s t c queries

    fit : Fits ring past q (get_or slots q b)
    fit = k.each q b l

    lr : d < ring
    lr = n.low

    p : place ring past < ring
    p = place_within k (omega (arith, lr))

    same_old : (x : ℕ) → (x ≡ c → ⊥) → has new.ahead.items x ≡ has (get_or slots q b).ahead.items x
    same_old x ne = ⊎_elim
        (λ u. sym (ap (λ (z : List ℕ). has z x) (pop.next u) ∙ any_none (λ y. y == x) new.ahead.items c (ne_eqb c x (λ e. ne (sym e)))))
        (λ u. ap (λ (z : List ℕ). has z x) (pop.kept u))
        (cases_Bool (is_next c (get_or slots q b)))

    members : (x : ℕ) → has new.ahead.items x ≡ (needs past q x && not ((c == x) && has queries q))
    members x = ⊎_elim
        (λ e. subst (λ z. has new.ahead.items z ≡ (needs past q z && not ((c == z) && has queries q))) (sym e)
        (false_from_ne_true _ (λ h. let w = beyond k d c n q b l new pop c h in let far = w.2 in let off : offset ring (place ring past) c ≡ d = n.off in absurd (omega (arith, far, off)))
        ∙ sym (false_from_ne_true _ (λ h. let a = and_parts (needs past q c) _ h in both_ways _ (not-true _ a.1) (and_from (c == c) (has queries q) (eq-eqb c c refl) (subst (λ (z : List ℕ). has z q ≡ true) (sym m.all) (needs_takes past c q l a.0)))))))
        (λ ne. same_old x ne ∙ (fit.ahead x ∙ (sym (and_yes (needs past q x)) ∙ ap (λ z. needs past q x && not (z && has queries q)) (sym (ne_eqb c x (λ e. ne (sym e)))))))
        (cases_eq x c) where
          and_yes : (z : Bool) → (z && true) ≡ z
          and_yes true = refl
          and_yes false = refl

    nearer : (front : List ℕ) (y : ℕ) (rest : List ℕ) (x : ℕ) → new.ahead.items ≡ front ++ y ∷ rest → has front x ≡ true → offset ring (chunk_at ring c 1) y < offset ring (chunk_at ring c 1) x
    nearer front y rest x e h =
        let hx : has new.ahead.items x ≡ true = ap (λ (z : List ℕ). has z x) e ∙ any_stays (λ z. z == x) front (y ∷ rest) h in
        let hy : has new.ahead.items y ≡ true = ap (λ (z : List ℕ). has z y) e ∙ any_later (λ z. z == y) front (y ∷ rest) (or_left (y == y) _ (eq-eqb y y refl)) in
        let wx = beyond k d c n q b l new pop x hx in
        let wy = beyond k d c n q b l new pop y hy in
        let fx = wx.2 in
        let fy = wy.2 in
        let sx = shift ring (place ring past) d c x p lr wx.0 n.here wx.2 in
        let sy = shift ring (place ring past) d c y p lr wy.0 n.here wy.2 in
        let old : offset ring (place ring past) y < offset ring (place ring past) x = ⊎_elim
        (λ u. fit.ordered.nearer front y (rest ++ c ∷ []) x (pop.next u ∙ (ap (λ (z : List ℕ). z ++ c ∷ []) e ∙ append_assoc front (y ∷ rest) (c ∷ []))) h)
        (λ u. fit.ordered.nearer front y rest x (sym (pop.kept u) ∙ e) h)
        (cases_Bool (is_next c (get_or slots q b))) in
        omega (arith, fx, fy, sx, sy, old)

  -- a Take
  pub kept_take : Kept ring here tickets closed slots past → (d c : ℕ) → Nearest ring slots past d c → (s t : ℕ) (queries : List ℕ) → MayFollow ring past (Take s t c queries) → (after : List Slot) → PoppedAll c slots after 256 → Kept ring (chunk_at ring c 1) (tickets + 1) closed after (past ++ Take s t c queries ∷ [])
  kept_take k d c n s t queries m after pop =
      let line : JournalLine = Take s t c queries in
      let count : tickets ≡ count_by takes past = k.counted in
      let push : count_by takes (past ++ line ∷ []) ≡ count_by takes past + 1 = count_push takes past line in
      record {
        small = k.small;
        low = (let w : chunk_at ring c 1 < ring = next_low ring c n.chunk_low in omega (arith, w));
        run = run_more past line k.run m;
        stands = sym (place_take ring past s t c queries);
        counted = omega (arith, count, push);
        closes = k.closes ∙ sym (any_none closes past line refl);
        full = pop.len ∙ k.full;
        few = subst (λ z. z ≤ 64) (sym (count_same ring past line k.run m (calm_take s t c queries))) k.few;
        ascend = λ q. ascend_same past line q refl (k.ascend q);
        each = λ q b l. popped_fits k d c n s t queries m q b l (get_or after q b) (pop.each q b l);
      }

  -- the nearest chunk may be taken
  pub may_take : Kept ring here tickets closed slots past → (d c : ℕ) → d ≡ least_from ring (place ring past) ring slots → Nearest ring slots past d c → (s t : ℕ) (queries : List ℕ) → t ≡ tickets → ((b : Slot) → queries ≡ served slots b c 256) → MayFollow ring past (Take s t c queries)
  may_take k d c h n s t queries et eq =
      let full : length slots ≡ 256 = k.full in
      let b : Slot = some_slot slots (omega (arith, full)) in
      record { counted = et ∙ k.counted; next = next_is k d c h n; all = eq b ∙ served_is k d c n b }

-- tickets fit in 32 bits
pub tickets_fit : {ring here tickets : ℕ} {closed : Bool} {slots : List Slot} {past : Journal} → Kept ring here tickets closed slots past → tickets < 2 ^ 23
tickets_fit {tickets = tickets} {past = past} k = let e : tickets ≡ count_by takes past = k.counted in let a : length past < 2 ^ 23 = run_is_short past k.small k.run in let b : count_by takes past ≤ length past = tickets_short past in omega (arith, e, a, b)

-- of no slots none needs the chunk
pub served_none : (slots : List Slot) (d : Slot) (c : ℕ) → served slots d c 0 ≡ []
unfolding below
served_none slots d c = refl

-- one slot more, for the recursion
served_suc : (slots : List Slot) (d : Slot) (c n : ℕ) → served slots d c (suc n) ≡ served slots d c n ++ cond (is_next c (get_or slots n d)) (n ∷ []) []
unfolding below
served_suc slots d c n = filter-append (λ q. is_next c (get_or slots q d)) (below n) (n ∷ [])

-- one slot more
pub served_more : (slots : List Slot) (d : Slot) (c n : ℕ) → served slots d c (n + 1) ≡ served slots d c n ++ cond (is_next c (get_or slots n d)) (n ∷ []) []
served_more slots d c n = subst (λ k. served slots d c k ≡ served slots d c n ++ cond (is_next c (get_or slots n d)) (n ∷ []) []) (let e : suc n ≡ n + 1 = omega arith in e) (served_suc slots d c n)

-- the last element, after some first one
pub last_from : (o : Option ℕ) (y : ℕ) (ys : List ℕ) → last_or o (y ∷ ys) ≡ slice_get (y ∷ ys) (length ys)
last_from o y [] = refl
last_from o y (z ∷ zs) = last_from (Some y) z zs

-- the last element is the one at the last place
pub last_get : (xs : List ℕ) → slice_get xs (length xs - 1) ≡ last_or None xs
last_get [] = refl
last_get (y ∷ ys) = ap (slice_get (y ∷ ys)) (let e : suc (length ys) - 1 ≡ length ys = omega arith in e) ∙ sym (last_from None y ys)

-- no slot is popped yet
pub popped_none : (c : ℕ) (slots : List Slot) → PoppedAll c slots slots 0
popped_none c slots = record { len = refl; each = λ j d l. absurd (omega (arith, l)); other = λ j d n. refl }

-- one slot more is popped
pub popped_more : (c : ℕ) (start old new : List Slot) (n : ℕ) → PoppedAll c start old n → PoppedAt c old new n → PoppedAll c start new (n + 1)
popped_more c start old new n p a = record {
  len = a.beside.len ∙ p.len;
  each = λ j d l. ⊎_elim
      (λ e. subst (λ z. Popped c (get_or start z d) (get_or new z d)) (sym e) (subst (λ z. Popped c z (get_or new n d)) (p.other n d (λ m. omega (arith, m))) (a.here d)))
      (λ ne. subst (Popped c (get_or start j d)) (sym (a.beside.other j d ne)) (p.each j d (omega (arith, l, ne))))
      (cases_eq j n);
  other = λ j d m. a.beside.other j d (λ e. m (omega (arith, e))) ∙ p.other j d (λ l. m (omega (arith, l)));
}

-- what a pop takes is the next
pub pops_next : (xs ys : List ℕ) (o : Option ℕ) (c : ℕ) → is_at c (last_or None xs) ≡ true → xs ≡ ys ++ option_to_list o → (o ≡ None → length xs ≡ 0) → xs ≡ ys ++ c ∷ []
pops_next xs ys None c t e z = absurd (empty xs t (z refl)) where
  empty : (xs : List ℕ) → is_at c (last_or None xs) ≡ true → length xs ≡ 0 → ⊥
  empty [] t e = false≢true t
  empty (x ∷ xs) t e = omega (arith, e)
pops_next xs ys (Some x) c t e z = e ∙ ap (λ (w : ℕ). ys ++ w ∷ []) (eqb-true x c (subst (λ o. is_at c o ≡ true) (ap (last_or None) e ∙ last_push None ys x) t))

-- one slot more, as the loop adds it
pub add_served : (slots : List Slot) (d : Slot) (c n : ℕ) (old new : List ℕ) (s : Slot) → new ≡ old ++ cond (is_next c s) (n ∷ []) [] → old ≡ served slots d c n → s ≡ get_or slots n d → new ≡ served slots d c (n + 1)
add_served slots d c n old new s e o i = e ∙ (ap (λ (l : List ℕ). l ++ cond (is_next c s) (n ∷ []) []) o ∙ (ap (λ (z : Slot). served slots d c n ++ cond (is_next c z) (n ∷ []) []) i ∙ sym (served_more slots d c n)))

module _ {ring here tickets : ℕ} {closed : Bool} {slots : List Slot} {past : Journal} where
  -- the least step from the board's place is that from the scan's
  pub step_is : Kept ring here tickets closed slots past → (d : ℕ) → d ≡ least_from ring here ring slots → d ≡ least_from ring (place ring past) ring slots
  step_is k d e = e ∙ ap (λ p. least_from ring p ring slots) k.stands

  -- the place of a board that may take lies on the ring
  pub here_low : Kept ring here tickets closed slots past → (d : ℕ) → d < ring → here < ring
  here_low k d l = subst (λ p. p < ring) (sym k.stands) (place_low past (omega (arith, l)) k.run)

  -- the same, from the board's place
  pub nearest_here : Kept ring here tickets closed slots past → (d c : ℕ) → d ≡ least_from ring (place ring past) ring slots → d < ring → c ≡ chunk_at ring here d → Nearest ring slots past d c
  nearest_here k d c e l h = nearest k d c e l (h ∙ ap (λ p. chunk_at ring p d) k.stands)

-- a slot that was read is what is there, whatever the default
pub read_at : (xs : List Slot) (i : ℕ) (x d : Slot) → x ≡ get_or xs i x → i < length xs → x ≡ get_or xs i d
read_at [] i x d e l = absurd (omega (arith, l))
read_at (y ∷ ys) zero x d e l = e
read_at (y ∷ ys) (suc i) x d e l = read_at ys i x d e (omega (arith, l))

-- of more slots no fewer need the chunk next
served_grows : (slots : List Slot) (d : Slot) (c n k : ℕ) → length (served slots d c n) ≤ length (served slots d c (n + k))
served_grows slots d c n zero = subst (λ m. length (served slots d c n) ≤ length (served slots d c m)) (let e : n ≡ n + 0 = omega arith in e) (omega arith)
served_grows slots d c n (suc k) =
    let i : length (served slots d c n) ≤ length (served slots d c (n + k)) = served_grows slots d c n k in
    let e : served slots d c (n + k + 1) ≡ served slots d c (n + k) ++ cond (is_next c (get_or slots (n + k) d)) ((n + k) ∷ []) [] = served_more slots d c (n + k) in
    let l : length (served slots d c (n + k + 1)) ≡ length (served slots d c (n + k)) + length (cond (is_next c (get_or slots (n + k) d)) ((n + k) ∷ []) []) = ap length e ∙ length-append (served slots d c (n + k)) (cond (is_next c (get_or slots (n + k) d)) ((n + k) ∷ []) []) in
    subst (λ m. length (served slots d c n) ≤ length (served slots d c m)) (let e : n + k + 1 ≡ n + suc k = omega arith in e) (omega (arith, i, l))

-- where the queries of all slots fit, there is room for the next one
pub served_room : (slots : List Slot) (d : Slot) (c q : ℕ) → q < 256 → length (served slots d c 256) ≤ 64 → is_next c (get_or slots q d) ≡ true → length (served slots d c q) < 64
served_room slots d c q low few next =
    let rest : q + 1 + (255 - q) ≡ 256 = omega (arith, low) in
    let g : length (served slots d c (q + 1)) ≤ length (served slots d c 256) = subst (λ m. length (served slots d c (q + 1)) ≤ length (served slots d c m)) rest (served_grows slots d c (q + 1) (255 - q)) in
    let e : length (served slots d c (q + 1)) ≡ length (served slots d c q ++ q ∷ []) = ap length (served_more slots d c q ∙ ap (λ b. served slots d c q ++ cond b (q ∷ []) []) next) in
    let l : length (served slots d c q ++ q ∷ []) ≡ length (served slots d c q) + 1 = length-append (served slots d c q) (q ∷ []) in
    omega (arith, g, e, l, few)

-- the queries of the first slots lie below the next one
pub served_last : (slots : List Slot) (d : Slot) (c n : ℕ) → IfSome (last_or None (served slots d c n)) (λ last. last < n)
served_last slots d c n = go (last_or None (served slots d c n)) refl where
  go : (o : Option ℕ) → last_or None (served slots d c n) ≡ o → IfSome o (λ last. last < n)
  go None e = record {}
  go (Some x) e = let f = last_is (served slots d c n) x e in
      below_has n x (kept_there (λ q. is_next c (get_or slots q d)) (below n) x (ap (λ (z : List ℕ). has z x) f.1 ∙ has_end f.0 x))

-- the slots that need the nearest chunk fit a task
pub can_serve : {ring here tickets : ℕ} {closed : Bool} {slots : List Slot} {past : Journal} → Kept ring here tickets closed slots past → (d c : ℕ) → Nearest ring slots past d c → CanServe slots c
can_serve {slots = slots} {past = past} k d c n = record {
  few = λ s.
      let e : length (served slots s c 256) ≡ count_by (λ q. needs past q c) (below 256) = ap length (served_is k d c n s) ∙ length-filter (λ q. needs past q c) (below 256) in
      let l : count_by (λ q. needs past q c) (below 256) ≤ running_count past = count_le (is_running past) (λ q. needs past q c) (below 256) (λ q h. (and_parts _ _ h).0) in
      let f : running_count past ≤ 64 = k.few in
      omega (arith, e, l, f);
  from_1 = λ q s l h. (attached_low past q k.run (needs_tells past q c (sym (next_needs k d c n q s l) ∙ h)).attached).0;
}
