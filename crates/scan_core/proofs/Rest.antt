-- What is read off the slots is read off those that are not at rest, and a slot at rest stays at rest.
use Rattle.std.proofs.Common.{◌≡◌, ℕ, ◌+◌, ◌-◌, ◌<◌, ◌≤◌, List, [], ◌∷◌, ◌++◌, length, get_or, drop, Bool, true, false, not, ◌&&◌, ◌||◌, nat_lt, cond, min, zero, suc, ◌⊎◌, inl, inr, ⊎_elim, refl, sym, ◌∙◌, ap, subst, arith}
use Rattle.std.specs.List.{last_or}
use Rattle.std.specs.Prelude.{None}
use Rattle.std.proofs.lemmas.Bool.{cases_eq, cases_lt, cases_Bool, both_ways, lt-ltb}
use Rattle.scan_rules.specs.Numbers.{has}
use Rattle.scan_core.specs.declared.slot.Slot.{Slot}
use Rattle.scan_core.specs.Changes.{AreBlank, Collected, CollectedAt, EnteredAt, Stopped, StoppedAt}
use Rattle.scan_core.specs.Delivering.{Paid, PaidAll}
use Rattle.scan_core.specs.Rest.{IsAtRest, RestOutside}
use Rattle.scan_core.specs.Slots.{running_below}
use Rattle.scan_core.specs.Taking.{first_step, is_at, is_next, least_from, Popped, PoppedAll, served, step_from}
use Rattle.scan_core.proofs.Running.{running_more, running_none}
use Rattle.scan_core.proofs.Taking.{served_more, served_none}

-- a slot at rest needs no chunk, so its number of steps is the ring's length
rest_step : (ring p : ℕ) (s : Slot) → IsAtRest s → first_step ring p s ≡ ring
rest_step ring p s r = ap (λ (z : List ℕ). step_from ring p (last_or None z)) r.none

-- no chunk is the next one of a slot at rest
rest_next : (c : ℕ) (s : Slot) → IsAtRest s → is_next c s ≡ false
rest_next c s r = ap (λ (z : List ℕ). is_at c (last_or None z)) r.none

-- a take leaves a slot at rest as it is
rest_popped : (c : ℕ) (s : Slot) → IsAtRest s → Popped c s s
rest_popped c s r = record {
  attached = refl;
  cancelled = refl;
  lost = refl;
  collected = refl;
  owed = refl;
  next = λ t. absurd (both_ways _ (rest_next c s r) t);
  kept = λ f. refl;
}

-- the least step over all slots is that over those from n on, if the first n are at rest
pub least_skips : (ring p best : ℕ) (slots : List Slot) (n : ℕ) → best ≤ ring → n ≤ length slots → ((q : ℕ) (d : Slot) → q < n → IsAtRest (get_or slots q d)) → least_from ring p best (drop n slots) ≡ least_from ring p best slots
least_skips ring p best slots zero l m r = refl
least_skips ring p best [] (suc n) l m r = refl
least_skips ring p best (s ∷ ss) (suc n) l m r =
    let step : first_step ring p s ≡ ring = rest_step ring p s (r zero s (omega arith)) in
    let same : best ≡ min best (first_step ring p s) = omega (arith, step, l) in
    least_skips ring p best ss n l (omega (arith, m)) (λ q d k. r (suc q) d (omega (arith, k)))
    ∙ ap (λ b. least_from ring p b ss) same

-- it is the least so far, if all slots from n on are at rest
pub least_ends : (ring p best : ℕ) (slots : List Slot) (n : ℕ) → best ≤ ring → ((q : ℕ) (d : Slot) → n ≤ q → q < length slots → IsAtRest (get_or slots q d)) → least_from ring p best (drop n slots) ≡ best
least_ends ring p best [] zero l r = refl
least_ends ring p best [] (suc n) l r = refl
least_ends ring p best (s ∷ ss) zero l r =
    let step : first_step ring p s ≡ ring = rest_step ring p s (r zero s (omega arith) (omega arith)) in
    let same : min best (first_step ring p s) ≡ best = omega (arith, step, l) in
    ap (λ b. least_from ring p b ss) same ∙ least_ends ring p best ss zero l (λ q d a k. r (suc q) d (omega arith) (omega (arith, k)))
least_ends ring p best (s ∷ ss) (suc n) l r = least_ends ring p best ss n l (λ q d a k. r (suc q) d (omega (arith, a)) (omega (arith, k)))

-- one slot more, for the recursion
least_suc : (ring p best : ℕ) (slots : List Slot) (q : ℕ) (d : Slot) → q < length slots → least_from ring p best (drop q slots) ≡ least_from ring p (min best (first_step ring p (get_or slots q d))) (drop (suc q) slots)
least_suc ring p best [] q d l = absurd (omega (arith, l))
least_suc ring p best (s ∷ ss) zero d l = refl
least_suc ring p best (s ∷ ss) (suc q) d l = least_suc ring p best ss q d (omega (arith, l))

-- one slot more
pub least_more : (ring p best : ℕ) (slots : List Slot) (q : ℕ) (d : Slot) (all : ℕ) → q < length slots → least_from ring p best (drop q slots) ≡ all → least_from ring p (min best (first_step ring p (get_or slots q d))) (drop (q + 1) slots) ≡ all
least_more ring p best slots q d all l e = subst (λ m. least_from ring p (min best (first_step ring p (get_or slots q d))) (drop m slots) ≡ all) (let k : suc q ≡ q + 1 = omega arith in k) (sym (least_suc ring p best slots q d l) ∙ e)

-- of k slots at rest none needs the chunk
served_rests : (slots : List Slot) (d : Slot) (c n k : ℕ) → ((q : ℕ) → n ≤ q → q < n + k → IsAtRest (get_or slots q d)) → served slots d c (n + k) ≡ served slots d c n
served_rests slots d c n zero r = ap (served slots d c) (let e : n + 0 ≡ n = omega arith in e)
served_rests slots d c n (suc k) r =
    ap (served slots d c) (let e : n + suc k ≡ n + k + 1 = omega arith in e)
    ∙ (served_more slots d c (n + k)
    ∙ (ap (λ b. served slots d c (n + k) ++ cond b ((n + k) ∷ []) []) (rest_next c (get_or slots (n + k) d) (r (n + k) (omega arith) (omega arith)))
    ∙ (no_more (served slots d c (n + k))
    ∙ served_rests slots d c n k (λ q a l. r q a (omega (arith, l)))))) where
      no_more : (xs : List ℕ) → xs ++ [] ≡ xs
      no_more [] = refl
      no_more (x ∷ xs) = ap (λ (z : List ℕ). x ∷ z) (no_more xs)

-- of k slots at rest none runs
running_rests : (slots : List Slot) (d : Slot) (n k : ℕ) → ((q : ℕ) → n ≤ q → q < n + k → IsAtRest (get_or slots q d)) → running_below slots d (n + k) ≡ running_below slots d n
running_rests slots d n zero r = ap (running_below slots d) (let e : n + 0 ≡ n = omega arith in e)
running_rests slots d n (suc k) r =
    let more : running_below slots d (n + k) + 0 ≡ running_below slots d (n + k + 1) = running_more slots d (n + k) (running_below slots d (n + k)) 0 refl (sym (ap (λ b. cond b 1 0) (r (n + k) (omega arith) (omega arith)).still)) in
    let i : running_below slots d (n + k) ≡ running_below slots d n = running_rests slots d n k (λ q a l. r q a (omega (arith, l))) in
    ap (running_below slots d) (let e : n + suc k ≡ n + k + 1 = omega arith in e) ∙ (let e : running_below slots d (n + k + 1) ≡ running_below slots d n = omega (arith, more, i) in e)

module _ {slots : List Slot} {from to : ℕ} where
  -- no slot before the range needs the chunk next
  pub served_first : RestOutside slots from to → (d : Slot) (c : ℕ) → served slots d c from ≡ []
  served_first r d c = ap (served slots d c) (let e : from ≡ 0 + from = omega arith in e) ∙ served_rests slots d c 0 from (λ q a l. r.before q d (omega (arith, l))) ∙ served_none slots d c

  -- nor does one after it
  pub served_all : RestOutside slots from to → (d : Slot) (c : ℕ) → served slots d c to ≡ served slots d c 256
  served_all r d c =
      let high : to ≤ 256 = r.high in
      let e : to + (256 - to) ≡ 256 = omega (arith, high) in
      sym (served_rests slots d c to (256 - to) (λ q a l. r.after q d a (omega (arith, l, high)))) ∙ ap (served slots d c) e

  -- no query before the range runs
  pub running_first : RestOutside slots from to → (d : Slot) → running_below slots d from ≡ 0
  running_first r d = ap (running_below slots d) (let e : from ≡ 0 + from = omega arith in e) ∙ running_rests slots d 0 from (λ q a l. r.before q d (omega (arith, l))) ∙ running_none slots d

  -- nor does one after it
  pub running_all : RestOutside slots from to → (d : Slot) → running_below slots d to ≡ running_below slots d 256
  running_all r d =
      let high : to ≤ 256 = r.high in
      let e : to + (256 - to) ≡ 256 = omega (arith, high) in
      sym (running_rests slots d to (256 - to) (λ q a l. r.after q d a (omega (arith, l, high)))) ∙ ap (running_below slots d) e

  -- the slots before the range are as a take leaves them
  pub popped_first : RestOutside slots from to → (c : ℕ) → PoppedAll c slots slots from
  popped_first r c = record { len = refl; each = λ j d l. rest_popped c (get_or slots j d) (r.before j d l); other = λ j d m. refl }

  -- and so are those after it
  pub popped_all : RestOutside slots from to → (c : ℕ) (new : List Slot) → PoppedAll c slots new to → PoppedAll c slots new 256
  popped_all r c new p = let high : to ≤ 256 = r.high in record {
    len = p.len;
    each = λ j d l. ⊎_elim
        (λ m. p.each j d m)
        (λ m. subst (Popped c (get_or slots j d)) (sym (p.other j d (λ k. omega (arith, k, m)))) (rest_popped c (get_or slots j d) (r.after j d (omega (arith, m)) l)))
        (cases_lt j to);
    other = λ j d m. p.other j d (λ l. m (omega (arith, l, high)));
  }

  -- if the first slot of the range is at rest, the range may begin after it
  pub rest_from : RestOutside slots from to → from < to → ((d : Slot) → IsAtRest (get_or slots from d)) → RestOutside slots (from + 1) to
  rest_from r l here = record {
    full = r.full;
    order = omega (arith, l);
    high = r.high;
    before = λ q d k. ⊎_elim
        (λ e. subst (λ z. IsAtRest (get_or slots z d)) (sym e) (here d))
        (λ ne. r.before q d (omega (arith, k, ne)))
        (cases_eq q from);
    after = r.after;
  }

  -- if the last slot of the range is at rest, the range may end before it
  pub rest_to : RestOutside slots from to → (last : ℕ) → last + 1 ≡ to → from ≤ last → ((d : Slot) → IsAtRest (get_or slots last d)) → RestOutside slots from last
  rest_to r last e l here = let high : to ≤ 256 = r.high in record {
    full = r.full;
    order = l;
    high = omega (arith, e, high);
    before = r.before;
    after = λ q d a k. ⊎_elim
        (λ m. subst (λ z. IsAtRest (get_or slots z d)) (sym m) (here d))
        (λ ne. r.after q d (omega (arith, a, ne, e)) k)
        (cases_eq q last);
  }

  -- after an attach any range will do that has the slot of the query and the range before
  pub rest_entered : RestOutside slots from to → (owed : ℕ) (ahead : List ℕ) (new : List Slot) (q : ℕ) → EnteredAt owed ahead slots new q → (start end : ℕ) → start ≤ q → q < end → end ≤ 256 → (from < to → start ≤ from) → (from < to → to ≤ end) → RestOutside new start end
  rest_entered r owed ahead new q entered start end low past high first last = record {
    full = entered.beside.len ∙ r.full;
    order = omega (arith, low, past);
    high = high;
    before = λ j d k. subst IsAtRest (sym (entered.beside.other j d (λ e. omega (arith, e, k, low)))) (⊎_elim
        (λ m. r.before j d (let f = first m in omega (arith, f, k)))
        (λ m. ⊎_elim (λ a. r.before j d a) (λ a. r.after j d (omega (arith, a, m)) (omega (arith, k, low, past, high))) (cases_lt j from))
        (cases_lt from to));
    after = λ j d k l. subst IsAtRest (sym (entered.beside.other j d (λ e. omega (arith, e, k, past)))) (⊎_elim
        (λ m. r.after j d (let f = last m in omega (arith, f, k)) l)
        (λ m. ⊎_elim (λ a. r.before j d a) (λ a. r.after j d (omega (arith, a, m)) l) (cases_lt j from))
        (cases_lt from to));
  }

  -- a range stays one, if each slot at rest stays at rest
  pub rest_stays : RestOutside slots from to → (new : List Slot) → length new ≡ length slots → ((q : ℕ) (d : Slot) → q < 256 → IsAtRest (get_or slots q d) → IsAtRest (get_or new q d)) → RestOutside new from to
  rest_stays r new len each = let order : from ≤ to = r.order in let high : to ≤ 256 = r.high in record {
    full = len ∙ r.full;
    order = r.order;
    high = r.high;
    before = λ q d l. each q d (omega (arith, l, order, high)) (r.before q d l);
    after = λ q d a l. each q d l (r.after q d a l);
  }

-- all slots of a new board are at rest
pub rest_blank : (slots : List Slot) → AreBlank slots 256 → RestOutside slots 0 0
rest_blank slots b = record {
  full = b.len;
  order = omega arith;
  high = omega arith;
  before = λ q d l. absurd (omega (arith, l));
  after = λ q d a l. let blank = b.each q d l in record {
    still = ap (λ (z : Bool). z && (not (get_or slots q d).cancelled && (not (get_or slots q d).lost && nat_lt 0 (get_or slots q d).owed))) blank.attached;
    none = blank.ahead;
  };
}

-- a test is false if its second part is
no_and : (a b c d : Bool) → b ≡ false → (a && (b && (c && d))) ≡ false
no_and true b c d e = ap (λ (z : Bool). z && (c && d)) e
no_and false b c d e = refl

-- a cancelled slot that needs nothing is at rest
stopped_rest : (old new : Slot) → Stopped old new → IsAtRest new
stopped_rest old new s = record {
  still = no_and new.attached (not new.cancelled) (not new.lost) (nat_lt 0 new.owed) (ap not s.cancelled);
  none = s.ahead;
}

-- a slot at rest that is collected
collected_rest : (old new : Slot) → Collected old new → IsAtRest old → IsAtRest new
collected_rest old new s r = record {
  still = ap (λ (z : Bool). z && (not new.cancelled && (not new.lost && nat_lt 0 new.owed))) s.attached
      ∙ (ap (λ (z : Bool). old.attached && (not z && (not new.lost && nat_lt 0 new.owed))) s.cancelled
      ∙ (ap (λ (z : Bool). old.attached && (not old.cancelled && (not z && nat_lt 0 new.owed))) s.lost
      ∙ (ap (λ (z : ℕ). old.attached && (not old.cancelled && (not old.lost && nat_lt 0 z))) s.owed ∙ r.still)));
  none = s.ahead ∙ r.none;
}

-- a slot at rest after a take
popped_rest : (c : ℕ) (old new : Slot) → Popped c old new → IsAtRest old → IsAtRest new
popped_rest c old new s r = record {
  still = ap (λ (z : Bool). z && (not new.cancelled && (not new.lost && nat_lt 0 new.owed))) s.attached
      ∙ (ap (λ (z : Bool). old.attached && (not z && (not new.lost && nat_lt 0 new.owed))) s.cancelled
      ∙ (ap (λ (z : Bool). old.attached && (not old.cancelled && (not z && nat_lt 0 new.owed))) s.lost
      ∙ (ap (λ (z : ℕ). old.attached && (not old.cancelled && (not old.lost && nat_lt 0 z))) s.owed ∙ r.still)));
  none = s.kept (rest_next c old r) ∙ r.none;
}

-- a slot at rest that is paid
paid_rest : (lost : Bool) (old new : Slot) → Paid lost old new → IsAtRest old → IsAtRest new
paid_rest lost old new s r = record {
  still = ap (λ (z : Bool). z && (not new.cancelled && (not new.lost && nat_lt 0 new.owed))) s.attached
      ∙ (ap (λ (z : Bool). old.attached && (not z && (not new.lost && nat_lt 0 new.owed))) s.cancelled
      ∙ (ap (λ (z : Bool). old.attached && (not old.cancelled && (not z && nat_lt 0 new.owed))) s.gone
      ∙ still old.attached old.cancelled old.lost lost (nat_lt 0 new.owed) (sym (ap (λ (z : Bool). old.attached && (not old.cancelled && (not old.lost && z))) owes) ∙ r.still)));
  none = ⊎_elim (λ t. s.cleared t) (λ f. s.kept f ∙ r.none) (cases_Bool lost);
} where
  owes : nat_lt 0 old.owed ≡ true
  owes = let e : new.owed + 1 ≡ old.owed = s.owed in lt-ltb 0 old.owed (omega (arith, e))

  still : (a c l m w : Bool) → (a && (not c && (not l && true))) ≡ false → (a && (not c && (not (l || m) && w))) ≡ false
  still false c l m w e = refl
  still true true l m w e = refl
  still true false true m w e = refl
  still true false false m w e = absurd (both_ways _ e refl)

-- after a cancel
pub rest_stopped : {from to : ℕ} (old new : List Slot) (q : ℕ) → StoppedAt old new q → RestOutside old from to → RestOutside new from to
rest_stopped old new q s r = rest_stays r new s.beside.len (λ j d l h. ⊎_elim
    (λ e. subst (λ z. IsAtRest (get_or new z d)) (sym e) (stopped_rest (get_or old q d) (get_or new q d) (s.here d)))
    (λ ne. subst IsAtRest (sym (s.beside.other j d ne)) h)
    (cases_eq j q))

-- after a collect
pub rest_collected : {from to : ℕ} (old new : List Slot) (q : ℕ) → CollectedAt old new q → RestOutside old from to → RestOutside new from to
rest_collected old new q s r = rest_stays r new s.beside.len (λ j d l h. ⊎_elim
    (λ e. subst (λ z. IsAtRest (get_or new z d)) (sym e) (collected_rest (get_or old q d) (get_or new q d) (s.here d) (subst (λ z. IsAtRest (get_or old z d)) e h)))
    (λ ne. subst IsAtRest (sym (s.beside.other j d ne)) h)
    (cases_eq j q))

-- after a take
pub rest_taken : {from to : ℕ} (c : ℕ) (old new : List Slot) → PoppedAll c old new 256 → RestOutside old from to → RestOutside new from to
rest_taken c old new p r = rest_stays r new p.len (λ j d l h. popped_rest c (get_or old j d) (get_or new j d) (p.each j d l) h)

-- whether a number is among the first n
among : (numbers : List ℕ) (n j : ℕ) → ((turn : ℕ) × (turn < n) × (get_or numbers turn 0 ≡ j)) ⊎ ((turn : ℕ) → turn < n → get_or numbers turn 0 ≡ j → ⊥)
among numbers zero j = inr (λ turn l e. omega (arith, l))
among numbers (suc n) j = ⊎_elim
    (λ f. let l = f.1 in inl (f.0, omega (arith, l), f.2))
    (λ none. ⊎_elim
    (λ e. inl (n, omega arith, e))
    (λ ne. inr (λ turn l e. ⊎_elim
    (λ m. none turn m e)
    (λ m. ne (subst (λ z. get_or numbers z 0 ≡ j) (let k : turn ≡ n = omega (arith, l, m) in k) e))
    (cases_lt turn n)))
    (cases_eq (get_or numbers n 0) j))
    (among numbers n j)

-- after a deliver
pub rest_paid : {from to : ℕ} (queries lost : List ℕ) (old new : List Slot) (n : ℕ) → PaidAll queries lost old new n → RestOutside old from to → RestOutside new from to
rest_paid queries lost old new n p r = rest_stays r new p.len (λ j d l h. ⊎_elim
    (λ f. subst (λ z. IsAtRest (get_or new z d)) f.2 (paid_rest (has lost (get_or queries f.0 0)) (get_or old (get_or queries f.0 0) d) (get_or new (get_or queries f.0 0) d) (p.each f.0 d f.1) (subst (λ z. IsAtRest (get_or old z d)) (sym f.2) h)))
    (λ none. subst IsAtRest (sym (p.other j d none)) h)
    (among queries n j))
