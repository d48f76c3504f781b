-- What a replay decides of a Deliver.
use Rattle.std.proofs.Common.{◌≡◌, ℕ, ◌+◌, ◌<◌, ◌==◌, List, [], ◌∷◌, ◌++◌, length, get_or, take, Bool, true, false, ◌&&◌, refl, sym, ◌∙◌, subst, nat_lt, eq-eqb}
use Rattle.std.specs.List.{list_any, list_all}
use Rattle.std.proofs.lemmas.Bool.{and_from, and_parts, both_ways, false≢true, lt-ltb, ltb-true}
use Rattle.scan_rules.specs.declared.journal_line.JournalLine.{JournalLine}
use Rattle.scan_rules.specs.declared.journal_line.JournalLine.TheVariants.{Attach, Take, Deliver, Cancel, Collect, Close}
use Rattle.scan_rules.specs.Lines.{names_with, serves_with}
use Rattle.scan_rules.specs.Numbers.{has}
use Rattle.scan_rules.specs.Queries.{Journal, is_attached, is_running, is_standing}
use Rattle.scan_rules.specs.Runs.{MayDeliver}
use Rattle.scan_rules.proofs.Ascending.{same_test}
use Rattle.scan_rules.proofs.Going.{all_agree}
use Rattle.scan_rules.proofs.Lists.{any_finds, any_there}
use Rattle.scan_rules.proofs.Numbers.{all_has}
use Rattle.scan_rules.proofs.Scan.{attached_low}
use Rattle.scan_core.specs.declared.slot.Slot.{Slot}
use Rattle.scan_core.specs.declared.take_record.TakeRecord.{TakeRecord}
use Rattle.scan_core.specs.Delivering.{PaidAll, AllOwed}
use Rattle.scan_core.specs.Kept.{Kept}
use Rattle.scan_core.specs.Replays.{shown, IsNext, IsReplayed, IsRecorded, runs_among, DeliveredAt}
use Rattle.scan_core.proofs.Delivered.{all_owed, kept_deliver, run_told}
use Rattle.scan_core.proofs.Delivering.{Flight, flight}
use Rattle.scan_core.proofs.Replaying.{recorded_deliver, replayed_more}

-- a line that names a query with a ticket serves it with that ticket, some chunk
names_serves : (t q : ℕ) (line : JournalLine) → names_with t q line ≡ true → (c : ℕ) × (serves_with t q c line ≡ true)
names_serves t q (Take s u c queries) h = let p = and_parts (u == t) _ h in (c, and_from _ _ p.0 (and_from (c == c) _ (eq-eqb c c refl) p.1))
names_serves t q (Attach s p chunks) h = absurd (false≢true h)
names_serves t q (Deliver s u lost) h = absurd (false≢true h)
names_serves t q (Cancel s p) h = absurd (false≢true h)
names_serves t q (Collect s p) h = absurd (false≢true h)
names_serves t q (Close s) h = absurd (false≢true h)

-- a task in flight names its own queries alone
named_are : {past : Journal} {s t c : ℕ} {queries : List ℕ} → Flight past s t c queries → (q : ℕ) → list_any (names_with t q) past ≡ has queries q
named_are {past = past} {t = t} {c = c} {queries = queries} f q = same_test (list_any (names_with t q) past) (has queries q)
    (λ y.
    let w = any_finds (names_with t q) past y in
    let v = names_serves t q w.1 w.4 in
    let there : list_any (serves_with t q v.0) past ≡ true = subst (λ (p : Journal). list_any (serves_with t q v.0) p ≡ true) (sym w.3) (any_there (serves_with t q v.0) w.0 w.1 w.2 v.1) in
    (and_parts (c == v.0) (has queries q) (sym (f.served q v.0) ∙ there)).1)
    (λ y. f.named q y)

module _ {ring : ℕ} {lines : Journal} {done here : ℕ} {closed : Bool} {slots : List Slot} {taken : List TakeRecord} where
  -- the task of a ticket that was not delivered
  pub its_flight : IsReplayed ring lines done here closed slots taken → (t : ℕ) (it : TakeRecord) → t < length taken → it ≡ get_or taken t it → it.delivered ≡ false → (c : ℕ) × Flight (take done lines) it.seat t c it.queries
  its_flight h t it low is e =
      let n : IsRecorded (take done lines) t it = subst (IsRecorded (take done lines) t) (sym is) (h.recorded.each t it low) in
      (n.chunk, flight ring (take done lines) it.seat t n.chunk it.queries h.kept.run n.there (sym n.delivered_is ∙ e))

  -- what may be lost, by the slots and the queries of the take
  losable_are : IsReplayed ring lines done here closed slots taken → (s t c : ℕ) (queries : List ℕ) → Flight (take done lines) s t c queries → (d : Slot) (lost : List ℕ)
      → list_all (runs_among slots queries d) lost ≡ list_all (λ q. is_running (take done lines) q && list_any (names_with t q) (take done lines)) lost
  losable_are h s t c queries f d lost = all_agree (runs_among slots queries d) (λ q. is_running (take done lines) q && list_any (names_with t q) (take done lines)) (λ q.
      same_test (runs_among slots queries d q) (is_running (take done lines) q && list_any (names_with t q) (take done lines))
      (λ y. let a = and_parts (nat_lt q 256) _ y in let b = and_parts _ _ a.1 in
      and_from _ _ (sym (run_told h.kept q (ltb-true q 256 a.0) d) ∙ b.0) (named_are f q ∙ b.1))
      (λ y. let a = and_parts (is_running (take done lines) q) _ y in
      let low : q < 256 = (attached_low (take done lines) q h.kept.run (and_parts (is_attached (take done lines) q) _ (and_parts (is_standing (take done lines) q) _ a.0).0).0).1 in
      and_from _ _ (lt-ltb q 256 low) (and_from _ _ (run_told h.kept q low d ∙ a.0) (sym (named_are f q) ∙ a.1)))) lost

  -- a Deliver that loses another query
  pub lost_refused : IsReplayed ring lines done here closed slots taken → (s t c : ℕ) (queries : List ℕ) → Flight (take done lines) s t c queries → (d : Slot) (lost : List ℕ) → list_all (runs_among slots queries d) lost ≡ false → MayDeliver (take done lines) s t lost → ⊥
  lost_refused h s t c queries f d lost e m = both_ways _ e (losable_are h s t c queries f d lost ∙ m.losable)

  -- a Deliver
  pub may_deliver_now : IsReplayed ring lines done here closed slots taken → (s t c : ℕ) (queries : List ℕ) → Flight (take done lines) s t c queries → (it : TakeRecord) → t < length taken → it ≡ get_or taken t it → it.delivered ≡ false → (d : Slot) (lost : List ℕ) → list_all (runs_among slots queries d) lost ≡ true → MayDeliver (take done lines) s t lost
  may_deliver_now h s t c queries f it low is e d lost all =
      let n : IsRecorded (take done lines) t it = subst (IsRecorded (take done lines) t) (sym is) (h.recorded.each t it low) in
      record { same_seat = f.seat; in_flight = sym n.delivered_is ∙ e; losable = sym (losable_are h s t c queries f d lost) ∙ all }

  pub deliver_step : IsReplayed ring lines done here closed slots taken → (s t c : ℕ) (queries lost : List ℕ) → IsNext (Deliver s t lost) (shown ring lines done) → Flight (take done lines) s t c queries → MayDeliver (take done lines) s t lost → (d : Slot) → list_all (runs_among slots queries d) lost ≡ true → t < length taken → (after : List Slot) → PaidAll queries lost slots after (length queries) → (more : List TakeRecord) → DeliveredAt taken more t → IsReplayed ring lines (done + 1) here closed after more
  deliver_step h s t c queries lost next f m d all low after paid more given =
      let among : (q : ℕ) → has lost q ≡ true → has queries q ≡ true = λ q y. (and_parts _ _ (and_parts (nat_lt q 256) _ (all_has (runs_among slots queries d) lost q all y)).1).1 in
      let count : length more ≡ length taken = given.beside.len in
      replayed_more lines done (Deliver s t lost) next
      (subst (λ k. Kept ring here k closed after (take done lines ++ Deliver s t lost ∷ [])) (sym count) (kept_deliver h.kept s t c queries lost f m among after paid))
      (recorded_deliver (take done lines) s t lost taken more h.recorded low given)

  -- the queries of a task in flight, as they are paid
  pub all_are_owed : IsReplayed ring lines done here closed slots taken → (s t c : ℕ) (queries : List ℕ) → Flight (take done lines) s t c queries → AllOwed slots queries
  all_are_owed h s t c queries f = all_owed h.kept s t c queries f
