-- The replay of a journal: its fields agree with the lines after each line that may follow.
use Rattle.std.proofs.Common.{◌≡◌, ℕ, ◌+◌, ◌<◌, ◌==◌, List, [], ◌∷◌, ◌++◌, length, get_or, take, drop, Bool, true, false, zero, suc, ⊎_elim, refl, sym, ◌∙◌, ap, subst, arith, count_by, ne_eqb, eq-eqb, length-append, length-drop, drop-cons, Result, Ok, Err, IfOk}
use Rattle.std.proofs.lemmas.Bool.{cases_eq, cases_lt, false_from_ne_true, false≢true, or_left}
use Rattle.std.proofs.lemmas.List.{get_or_append_left, get_or_push}
use Rattle.std.proofs.lemmas.List.Elements.{Contains-append_left, Contains-append_right}
use Rattle.scan_rules.specs.declared.journal_line.JournalLine.{JournalLine}
use Rattle.scan_rules.specs.declared.journal_line.JournalLine.TheVariants.{Attach, Take, Deliver, Cancel, Collect, Close}
use Rattle.scan_rules.specs.Lines.{delivers, is_deliver, takes}
use Rattle.scan_rules.specs.Queries.{Journal, is_delivered}
use Rattle.scan_rules.specs.Runs.{IsRun, MayFollow}
use Rattle.scan_rules.proofs.Giving.{delivered_taken}
use Rattle.scan_rules.proofs.Going.{none_taken}
use Rattle.scan_rules.proofs.Lengths.{ticket_low}
use Rattle.scan_rules.proofs.Lists.{any_later, any_none, count_push}
use Rattle.scan_core.specs.declared.slot.Slot.{Slot}
use Rattle.scan_core.specs.declared.take_record.TakeRecord.{TakeRecord}
use Rattle.scan_core.specs.Kept.{Kept}
use Rattle.scan_core.specs.Replays.{ReplayState, shown, IsNext, Decides, IsRecorded, AreRecorded, IsReplayed, DeliveredAt}

-- the next line divides the journal into the lines before it and those after it
pub record NextAt (lines : Journal) (done : ℕ) (line : JournalLine) (later : Journal) : Type 0 where
  pub low : done < length lines
  pub front : take (done + 1) lines ≡ take done lines ++ line ∷ []
  pub back : drop (done + 1) lines ≡ later

same_head : (x line : JournalLine) (xs later : Journal) → ◌≡◌ {A = Journal} (x ∷ xs) (line ∷ later) → x ≡ line
same_head x line xs later e = cc e

same_tail : (x line : JournalLine) (xs later : Journal) → ◌≡◌ {A = Journal} (x ∷ xs) (line ∷ later) → xs ≡ later
same_tail x line xs later e = cc e

next_suc : (lines : Journal) (done : ℕ) (line : JournalLine) (later : Journal) → drop done lines ≡ line ∷ later
    → (done < length lines) × (take (suc done) lines ≡ take done lines ++ line ∷ []) × (drop (suc done) lines ≡ later)
next_suc [] zero line later e = absurd (cc e)
next_suc [] (suc n) line later e = absurd (cc e)
next_suc (x ∷ xs) zero line later e = (omega arith, ap (λ (l : JournalLine). l ∷ []) (same_head x line xs later e), same_tail x line xs later e)
next_suc (x ∷ xs) (suc n) line later e =
    let i = next_suc xs n line later e in
    let low : n < length xs = i.0 in
    (omega (arith, low), ap (λ (l : Journal). x ∷ l) i.1, i.2)

pub next_cut : (ring : ℕ) (lines : Journal) (done : ℕ) (line : JournalLine) → (next : IsNext line (shown ring lines done)) → NextAt lines done line next.later
next_cut ring lines done line next =
    let i = next_suc lines done line next.later next.is in
    let e : suc done ≡ done + 1 = omega arith in
    record { low = i.0; front = subst (λ n. take n lines ≡ take done lines ++ line ∷ []) e i.1; back = subst (λ n. drop n lines ≡ next.later) e i.2 }

-- a line that may follow is replayed
pub decided_right : (ring : ℕ) (lines : Journal) (done : ℕ) (line : JournalLine) → IsNext line (shown ring lines done) → MayFollow ring (take done lines) line
    → Decides line (shown ring lines done) true (shown ring lines (done + 1))
decided_right ring lines done line next m =
    let n = next_cut ring lines done line next in
    record {
      right = λ e. m;
      goes_on = λ e. record { ring = refl; past = n.front; rest = next.is ∙ ap (λ (l : Journal). line ∷ l) (sym n.back) };
      wrong = λ e. absurd (false≢true (sym e));
      same = λ e. absurd (false≢true (sym e));
    }

-- one that may not changes nothing
pub decided_wrong : (ring : ℕ) (lines : Journal) (done : ℕ) (line : JournalLine) → (MayFollow ring (take done lines) line → ⊥)
    → Decides line (shown ring lines done) false (shown ring lines done)
decided_wrong ring lines done line refused = record {
  right = λ e. absurd (false≢true e);
  goes_on = λ e. absurd (false≢true e);
  wrong = λ e m. refused m;
  same = λ e. refl;
}

-- the fields agree with one line more
pub replayed_more : {ring : ℕ} (lines : Journal) (done : ℕ) (line : JournalLine) → IsNext line (shown ring lines done) → {here : ℕ} {closed : Bool} {slots : List Slot} {taken : List TakeRecord}
    → Kept ring here (length taken) closed slots (take done lines ++ line ∷ []) → AreRecorded (take done lines ++ line ∷ []) taken → IsReplayed ring lines (done + 1) here closed slots taken
replayed_more {ring = ring} lines done line next {here = here} {closed = closed} {slots = slots} {taken = taken} k recorded =
    let n = next_cut ring lines done line next in
    let low : done < length lines = n.low in
    record {
      within = omega (arith, low);
      kept = subst (Kept ring here (length taken) closed slots) (sym n.front) k;
      recorded = subst (λ (p : Journal). AreRecorded p taken) (sym n.front) recorded;
    }

-- a line that is no Deliver delivers no ticket
delivers_none : (t : ℕ) (line : JournalLine) → is_deliver line ≡ false → delivers t line ≡ false
delivers_none t (Attach s q chunks) n = refl
delivers_none t (Take s u c queries) n = refl
delivers_none t (Deliver s u lost) n = absurd (false≢true (sym n))
delivers_none t (Cancel s q) n = refl
delivers_none t (Collect s q) n = refl
delivers_none t (Close s) n = refl

record_on : (past : Journal) (line : JournalLine) (t : ℕ) (it : TakeRecord) → delivers t line ≡ false → IsRecorded past t it → IsRecorded (past ++ line ∷ []) t it
record_on past line t it n h = record {
  chunk = h.chunk;
  there = Contains-append_left past (line ∷ []) (Take it.seat t h.chunk it.queries) h.there;
  delivered_is = h.delivered_is ∙ sym (any_none (delivers t) past line n);
}

-- the records hold after a line that is no Take and no Deliver
pub recorded_on : (past : Journal) (line : JournalLine) (taken : List TakeRecord) → takes line ≡ false → is_deliver line ≡ false → AreRecorded past taken → AreRecorded (past ++ line ∷ []) taken
recorded_on past line taken nt nd h = record {
  all = h.all ∙ sym (none_taken past line nt);
  each = λ t d l. record_on past line t (get_or taken t d) (delivers_none t line nd) (h.each t d l);
}

-- the next ticket was not delivered
fresh_ticket : {ring : ℕ} (past : Journal) (t : ℕ) → IsRun ring past → t ≡ count_by takes past → is_delivered past t ≡ false
fresh_ticket past t run e = false_from_ne_true (is_delivered past t) (λ h.
    let low : t < count_by takes past = ticket_low past t run (delivered_taken past t run h) in
    absurd (omega (arith, low, e)))

-- they hold after a Take, with its record
pub recorded_take : {ring : ℕ} (past : Journal) (s t c : ℕ) (queries : List ℕ) (taken more : List TakeRecord) (it : TakeRecord) → IsRun ring past → AreRecorded past taken → t ≡ length taken
    → it.seat ≡ s → it.queries ≡ queries → it.delivered ≡ false → more ≡ taken ++ it ∷ [] → AreRecorded (past ++ Take s t c queries ∷ []) more
recorded_take past s t c queries taken more it run h e seat names delivered_is is = rw is (record {
  all =
      let l : length (taken ++ it ∷ []) ≡ length taken + 1 = length-append taken (it ∷ []) in
      let a : length taken ≡ count_by takes past = h.all in
      let p : count_by takes (past ++ Take s t c queries ∷ []) ≡ count_by takes past + 1 = count_push takes past (Take s t c queries) in
      omega (arith, l, a, p);
  each = λ u d l. ⊎_elim
      (λ low. subst (IsRecorded (past ++ Take s t c queries ∷ []) u) (sym (get_or_append_left taken (it ∷ []) d u low)) (record_on past (Take s t c queries) u (get_or taken u d) refl (h.each u d low)))
      (λ high.
      let n : length (taken ++ it ∷ []) ≡ length taken + 1 = length-append taken (it ∷ []) in
      let same : u ≡ length taken = omega (arith, l, n, high) in
      let here : IsRecorded (past ++ Take s t c queries ∷ []) t it = record {
        chunk = c;
        there = rw (seat, names) (Contains-append_right past (Take s t c queries ∷ []) (Take s t c queries) (0, omega arith, refl));
        delivered_is = delivered_is ∙ sym (any_none (delivers t) past (Take s t c queries) refl ∙ fresh_ticket past t run (e ∙ h.all));
      } in
      subst (λ k. IsRecorded (past ++ Take s t c queries ∷ []) k (get_or (taken ++ it ∷ []) k d)) (sym same)
      (subst (λ (x : TakeRecord). IsRecorded (past ++ Take s t c queries ∷ []) (length taken) x) (sym (get_or_push taken it d (length taken) refl))
      (subst (λ k. IsRecorded (past ++ Take s t c queries ∷ []) k it) e here)))
      (cases_lt u (length taken));
})

-- they hold after a Deliver, whose take is marked
pub recorded_deliver : (past : Journal) (s t : ℕ) (lost : List ℕ) (taken after : List TakeRecord) → AreRecorded past taken → t < length taken → DeliveredAt taken after t → AreRecorded (past ++ Deliver s t lost ∷ []) after
recorded_deliver past s t lost taken after h low d = record {
  all = d.beside.len ∙ (h.all ∙ sym (none_taken past (Deliver s t lost) refl));
  each = λ u z l. ⊎_elim
      (λ e. subst (λ k. IsRecorded (past ++ Deliver s t lost ∷ []) k (get_or after k z)) (sym e) (here z))
      (λ n. subst (IsRecorded (past ++ Deliver s t lost ∷ []) u) (sym (d.beside.other u z n))
      (record_on past (Deliver s t lost) u (get_or taken u z) (ne_eqb t u (λ e. n (sym e))) (h.each u z (let w : length after ≡ length taken = d.beside.len in omega (arith, l, w)))))
      (cases_eq u t);
} where
  here : (z : TakeRecord) → IsRecorded (past ++ Deliver s t lost ∷ []) t (get_or after t z)
  here z =
      let was = h.each t z low in
      record {
        chunk = was.chunk;
        there = rw (d.seat z, d.queries z) (Contains-append_left past (Deliver s t lost ∷ []) (Take (get_or taken t z).seat t was.chunk (get_or taken t z).queries) was.there);
        delivered_is = d.delivered z ∙ sym (any_later (delivers t) past (Deliver s t lost ∷ []) (or_left (t == t) false (eq-eqb t t refl)));
      }

-- before the first line
pub replayed_none : (ring : ℕ) (lines : Journal) (slots : List Slot) (taken : List TakeRecord) → Kept ring 0 0 false slots [] → taken ≡ [] → IsReplayed ring lines 0 0 false slots taken
replayed_none ring lines slots taken k none = rw none (record {
  within = omega arith;
  kept = k;
  recorded = record { all = refl; each = λ t d l. absurd (omega (arith, l)) };
})

-- if lines are left, the position is before the end
pub left_low : (lines : Journal) (done : ℕ) → 0 < length (drop done lines) → done < length lines
left_low lines done some = omega (arith, some, length-drop done lines)

-- the line at the position is the next one
pub here_next : (ring : ℕ) (lines : Journal) (done : ℕ) (line : JournalLine) → done < length lines → line ≡ get_or lines done line → IsNext line (shown ring lines done)
here_next ring lines done line low is = record {
  later = drop (suc done) lines;
  is = drop-cons lines done line low ∙ ap (λ (l : JournalLine). l ∷ drop (suc done) lines) (sym is);
}

-- only one line is the next one
next_one : (a b : JournalLine) (state : ReplayState) → IsNext a state → IsNext b state → a ≡ b
next_one a b state x y = same_head a b x.later y.later (sym x.is ∙ y.is)

-- so what is decided of that line is decided of any next line
pub decided_any : (line : JournalLine) (old new : ReplayState) (may : Bool) → IsNext line old → Decides line old may new → (other : JournalLine) → IsNext other old → Decides other old may new
decided_any line old new may here h other next = subst (λ l. Decides l old may new) (next_one line other old here next) h

pub decided_ok : {E : Type 0} (line : JournalLine) (old new : ReplayState) (result : Result Bool E) → IsNext line old → IfOk result (λ may. Decides line old may new)
    → IfOk result (λ may. (other : JournalLine) → IsNext other old → Decides other old may new)
decided_ok line old new (Ok may) here h = decided_any line old new may here h
decided_ok line old new (Err e) here h = record {}
