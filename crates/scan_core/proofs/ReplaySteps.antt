-- What a replay decides of each line but a Deliver, by its slots.
use Rattle.std.proofs.Common.{◌≡◌, ℕ, ◌+◌, ◌<◌, ◌≤◌, ◌==◌, List, [], ◌∷◌, ◌++◌, AllPairs, Contains, length, get_or, take, Bool, true, false, not, ◌&&◌, Option, Some, refl, sym, ◌∙◌, ap, subst, arith, count_by, nat_lt, eq-eqb, length-append}
use Rattle.std.specs.List.{list_any, list_all}
use Rattle.std.proofs.lemmas.Bool.{and_from, and_parts, both_ways, ltb-true, not-true, not_from_false}
use Rattle.std.proofs.lemmas.List.Sums.{length-filter}
use Rattle.scan_rules.specs.declared.journal_line.JournalLine.TheVariants.{Attach, Take, Cancel, Collect, Close}
use Rattle.scan_rules.specs.Lines.{has_ticket, takes, took}
use Rattle.scan_rules.specs.Numbers.{below, has}
use Rattle.scan_rules.specs.Queries.{Journal, is_attached, is_collected, is_running}
use Rattle.scan_rules.specs.Runs.{MayAttach, MayCollect, MayTake, MayDeliver, MayFollow}
use Rattle.scan_rules.specs.Scan.{chunk_at, place, running_count}
use Rattle.scan_rules.proofs.Ascending.{ascending_fit}
use Rattle.scan_rules.proofs.Finding.{filter_below}
use Rattle.scan_rules.proofs.Going.{contains_cut}
use Rattle.scan_rules.proofs.Lengths.{ticket_low, took_ticket}
use Rattle.scan_rules.proofs.Lists.{any_there, any_weaker}
use Rattle.scan_rules.proofs.Numbers.{all_has}
use Rattle.scan_rules.proofs.OwnLines.{same_taker}
use Rattle.scan_core.specs.declared.slot.Slot.{Slot}
use Rattle.scan_core.specs.declared.take_record.TakeRecord.{TakeRecord}
use Rattle.scan_core.specs.Attaching.{ahead_in}
use Rattle.scan_core.specs.Changes.{AttachedAt, EnteredAt, StoppedAt, CollectedAt}
use Rattle.scan_core.specs.Kept.{IsAhead, Kept}
use Rattle.scan_core.specs.Replays.{shown, IsNext, IsReplayed, IsRecorded}
use Rattle.scan_core.specs.Slots.{runs, running_below}
use Rattle.scan_core.specs.Taking.{PoppedAll, least_from, served}
use Rattle.scan_core.proofs.Attaching.{kept_attach}
use Rattle.scan_core.proofs.Replaying.{recorded_on, recorded_take, replayed_more}
use Rattle.scan_core.proofs.ScanOrder.{ahead_members, ahead_ordered}
use Rattle.scan_core.proofs.Taking.{kept_take, may_take, nearest_here, next_is, next_none, step_is, Nearest}
use Rattle.scan_core.proofs.Words.{runs_is, some_slot, kept_close, kept_cancel, kept_collect}

-- a query that may be collected does not run, and is attached and not collected
pub collectable_parts : (past : Journal) (q : ℕ) → MayCollect past q → (is_running past q ≡ false) × ((is_attached past q && not (is_collected past q)) ≡ true)
collectable_parts past q m =
    let a = and_parts (is_attached past q) (not (is_running past q)) m.ended in
    (not-true _ a.1, and_from _ _ a.0 (not_from_false _ m.not_yet))

-- each chunk of a query that may be attached is on the ring
on_ring : (ring : ℕ) (past : Journal) (q : ℕ) (chunks : List ℕ) → MayAttach ring past q chunks → (x : ℕ) → has chunks x ≡ true → x < ring
on_ring ring past q chunks m x t = ltb-true x ring (all_has (λ chunk. nat_lt chunk ring) chunks x m.in_ring t)

one_chunk : (a b : ℕ) → ◌≡◌ {A = Option ℕ} (Some a) (Some b) → a ≡ b
one_chunk a b e = cc e

-- a Take in the journal took its ticket
took_it : (past : Journal) (s t c : ℕ) (queries : List ℕ) → Contains past (Take s t c queries) → list_any (took s t) past ≡ true
took_it past s t c queries there =
    let w = contains_cut past (Take s t c queries) there in
    subst (λ (p : Journal). list_any (took s t) p ≡ true) (sym w.2) (any_there (took s t) w.0 (Take s t c queries) w.1 (and_from (s == s) _ (eq-eqb s s refl) (eq-eqb t t refl)))

module _ {ring : ℕ} {lines : Journal} {done here : ℕ} {closed : Bool} {slots : List Slot} {taken : List TakeRecord} where
  -- a Close
  pub close_step : IsReplayed ring lines done here closed slots taken → (s : ℕ) → IsNext (Close s) (shown ring lines done) → closed ≡ false → IsReplayed ring lines (done + 1) here true slots taken
  close_step h s next e =
      replayed_more lines done (Close s) next (kept_close ring here (length taken) closed slots (take done lines) s h.kept e)
      (recorded_on (take done lines) (Close s) taken refl refl h.recorded)

  -- a Cancel
  pub cancel_step : IsReplayed ring lines done here closed slots taken → (s q : ℕ) → IsNext (Cancel s q) (shown ring lines done) → is_running (take done lines) q ≡ true → (after : List Slot) → StoppedAt slots after q → IsReplayed ring lines (done + 1) here closed after taken
  cancel_step h s q next m after t =
      replayed_more lines done (Cancel s q) next (kept_cancel ring here (length taken) closed slots after (take done lines) s q h.kept m t)
      (recorded_on (take done lines) (Cancel s q) taken refl refl h.recorded)

  -- a Collect
  pub collect_step : IsReplayed ring lines done here closed slots taken → (s q : ℕ) → IsNext (Collect s q) (shown ring lines done) → MayFollow ring (take done lines) (Collect s q) → (after : List Slot) → CollectedAt slots after q → IsReplayed ring lines (done + 1) here closed after taken
  collect_step h s q next m after t =
      replayed_more lines done (Collect s q) next (kept_collect ring here (length taken) closed slots after (take done lines) s q h.kept m t)
      (recorded_on (take done lines) (Collect s q) taken refl refl h.recorded)

  -- the slots that run are the queries that run
  running_is : IsReplayed ring lines done here closed slots taken → (count : ℕ) → ((d : Slot) → count ≡ running_below slots d 256) → count ≡ running_count (take done lines)
  running_is h count e =
      let full : length slots ≡ 256 = h.kept.full in
      let d : Slot = some_slot 0 slots (omega (arith, full)) in
      e d ∙ (sym (length-filter (λ q. runs (get_or slots q d)) (below 256))
      ∙ (ap length (filter_below 256 (λ q. runs (get_or slots q d)) (is_running (take done lines)) (λ q l. runs_is (take done lines) q (get_or slots q d) (h.kept.each q d l).words))
      ∙ length-filter (is_running (take done lines)) (below 256)))

  -- whether the query was attached
  attached_is : IsReplayed ring lines done here closed slots taken → (q : ℕ) → q < 256 → (b : Bool) → ((d : Slot) → b ≡ (get_or slots q d).attached) → is_attached (take done lines) q ≡ b
  attached_is h q low b known =
      let full : length slots ≡ 256 = h.kept.full in
      let d : Slot = some_slot 0 slots (omega (arith, full)) in
      sym (known d ∙ (h.kept.each q d low).words.attached)

  -- why a query may not be attached
  pub closed_refused : IsReplayed ring lines done here closed slots taken → (q : ℕ) (chunks : List ℕ) → closed ≡ true → MayAttach ring (take done lines) q chunks → ⊥
  closed_refused h q chunks e m = both_ways _ m.not_closed (sym h.kept.closes ∙ e)

  pub again_refused : IsReplayed ring lines done here closed slots taken → (q : ℕ) (chunks : List ℕ) → q ≤ 255 → (b : Bool) → ((d : Slot) → b ≡ (get_or slots q d).attached) → b ≡ true → MayAttach ring (take done lines) q chunks → ⊥
  again_refused h q chunks low b known e m = both_ways _ m.fresh (attached_is h q (omega (arith, low)) b known ∙ e)

  pub full_refused : IsReplayed ring lines done here closed slots taken → (q : ℕ) (chunks : List ℕ) (count : ℕ) → ((d : Slot) → count ≡ running_below slots d 256) → 64 ≤ count → MayAttach ring (take done lines) q chunks → ⊥
  full_refused h q chunks count e many m =
      let n : count ≡ running_count (take done lines) = running_is h count e in
      let room : running_count (take done lines) < 64 = m.room in
      omega (arith, n, many, room)

  -- and when it may
  pub may_attach_now : IsReplayed ring lines done here closed slots taken → (q : ℕ) (chunks : List ℕ) → closed ≡ false → 1 ≤ q → q ≤ 255 → (b : Bool) → ((d : Slot) → b ≡ (get_or slots q d).attached) → b ≡ false → (count : ℕ) → ((d : Slot) → count ≡ running_below slots d 256) → count < 64 → list_all (λ chunk. nat_lt chunk ring) chunks ≡ true → MayAttach ring (take done lines) q chunks
  may_attach_now h q chunks not_closed low high b known fresh count e few in_ring =
      let n : count ≡ running_count (take done lines) = running_is h count e in
      record {
        not_closed = sym h.kept.closes ∙ not_closed;
        from_1 = low;
        to_255 = omega (arith, high);
        fresh = attached_is h q (omega (arith, high)) b known ∙ fresh;
        room = omega (arith, n, few);
        in_ring = in_ring;
      }

  -- a list on a ring is no longer than the ring
  pub list_short : IsReplayed ring lines done here closed slots taken → (q : ℕ) (chunks : List ℕ) → MayAttach ring (take done lines) q chunks → AllPairs (λ a b. a < b) chunks → length chunks ≤ 16384
  list_short h q chunks m up =
      let small : ring ≤ 16384 = h.kept.small in
      let fit : 0 + length chunks ≤ ring = ascending_fit ring 0 chunks up (λ x t. (omega arith, on_ring ring (take done lines) q chunks m x t)) (omega arith) in
      omega (arith, small, fit)

  -- an Attach
  pub attach_step : IsReplayed ring lines done here closed slots taken → (s q : ℕ) (chunks : List ℕ) → IsNext (Attach s q chunks) (shown ring lines done) → MayAttach ring (take done lines) q chunks → AllPairs (λ a b. a < b) chunks → (after : List Slot) → EnteredAt (length chunks) (ahead_in here chunks) slots after q → IsReplayed ring lines (done + 1) here closed after taken
  attach_step h s q chunks next m up after e =
      let entered : AttachedAt ring (place ring (take done lines)) chunks slots after q = record {
        beside = e.beside;
        here = λ d. let n = e.here d in record {
          attached = n.attached;
          cancelled = n.cancelled;
          lost = n.lost;
          collected = n.collected;
          owed = n.owed_is;
          members = λ x. ap (λ (l : List ℕ). has l x) n.ahead_is ∙ ahead_members here chunks x;
          ordered = subst (λ p. IsAhead ring p (get_or after q d).ahead.items) h.kept.stands (subst (IsAhead ring here) (sym n.ahead_is) (ahead_ordered ring here chunks h.kept.low up (on_ring ring (take done lines) q chunks m)));
        };
      } in
      replayed_more lines done (Attach s q chunks) next (kept_attach ring here (length taken) closed slots after (take done lines) s q chunks h.kept m up entered)
      (recorded_on (take done lines) (Attach s q chunks) taken refl refl h.recorded)

  -- the next chunk of the scan
  pub next_here : IsReplayed ring lines done here closed slots taken → (step chunk : ℕ) → step ≡ least_from ring here ring slots → step < ring → chunk ≡ chunk_at ring here step → Nearest ring slots (take done lines) step chunk
  next_here h step chunk least low at = nearest_here h.kept step chunk (step_is h.kept step least) low at

  -- why a chunk may not be taken
  pub none_refused : IsReplayed ring lines done here closed slots taken → (step : ℕ) → step ≡ least_from ring here ring slots → ring ≤ step → (t c : ℕ) (queries : List ℕ) → MayTake ring (take done lines) t c queries → ⊥
  none_refused h step least high t c queries m = let n = next_none h.kept step (step_is h.kept step least) high in let y = m.next in absurd (cc)

  -- the take that a board would hand out
  take_is : IsReplayed ring lines done here closed slots taken → (step chunk : ℕ) → step ≡ least_from ring here ring slots → Nearest ring slots (take done lines) step chunk → (takers : List ℕ) → ((d : Slot) → takers ≡ served slots d chunk 256) → MayTake ring (take done lines) (length taken) chunk takers
  take_is h step chunk least n takers all = may_take h.kept step chunk (step_is h.kept step least) n 0 (length taken) takers refl all

  -- a take with another chunk, ticket or list of queries may not follow
  pub chunk_refused : IsReplayed ring lines done here closed slots taken → (step chunk : ℕ) → step ≡ least_from ring here ring slots → Nearest ring slots (take done lines) step chunk → (t c : ℕ) (queries : List ℕ) → (chunk ≡ c → ⊥) → MayTake ring (take done lines) t c queries → ⊥
  chunk_refused h step chunk least n t c queries ne m = ne (one_chunk chunk c (sym (next_is h.kept step chunk (step_is h.kept step least) n) ∙ m.next))

  pub ticket_refused : IsReplayed ring lines done here closed slots taken → (t c : ℕ) (queries : List ℕ) → (t ≡ length taken → ⊥) → MayTake ring (take done lines) t c queries → ⊥
  ticket_refused h t c queries ne m = ne (m.counted ∙ sym h.kept.counted)

  pub queries_refused : IsReplayed ring lines done here closed slots taken → (step chunk : ℕ) → step ≡ least_from ring here ring slots → Nearest ring slots (take done lines) step chunk → (takers : List ℕ) → ((d : Slot) → takers ≡ served slots d chunk 256) → (t : ℕ) (queries : List ℕ) → (takers ≡ queries → ⊥) → MayTake ring (take done lines) t chunk queries → ⊥
  queries_refused h step chunk least n takers all t queries ne m = ne ((take_is h step chunk least n takers all).all ∙ sym m.all)

  pub take_right : IsReplayed ring lines done here closed slots taken → (step chunk : ℕ) → step ≡ least_from ring here ring slots → Nearest ring slots (take done lines) step chunk → (takers : List ℕ) → ((d : Slot) → takers ≡ served slots d chunk 256) → (t : ℕ) (queries : List ℕ) → t ≡ length taken → takers ≡ queries → MayTake ring (take done lines) t chunk queries
  take_right h step chunk least n takers all t queries et eq = rw (et, sym eq) (take_is h step chunk least n takers all)

  -- a Take
  pub take_step : IsReplayed ring lines done here closed slots taken → (s t c : ℕ) (queries : List ℕ) → IsNext (Take s t c queries) (shown ring lines done) → MayTake ring (take done lines) t c queries → (step : ℕ) → Nearest ring slots (take done lines) step c → t ≡ length taken → (after : List Slot) → PoppedAll c slots after 256 → (it : TakeRecord) (more : List TakeRecord) → it.seat ≡ s → it.queries ≡ queries → it.delivered ≡ false → more ≡ taken ++ it ∷ [] → IsReplayed ring lines (done + 1) (chunk_at ring c 1) closed after more
  take_step h s t c queries next m step n et after pop it more seat names delivered_is is =
      let count : length more ≡ length taken + 1 = ap length is ∙ length-append taken (it ∷ []) in
      replayed_more lines done (Take s t c queries) next
      (subst (λ k. Kept ring (chunk_at ring c 1) k closed after (take done lines ++ Take s t c queries ∷ [])) (sym count) (kept_take h.kept step c n s t queries m after pop))
      (recorded_take (take done lines) s t c queries taken more it h.kept.run h.recorded et seat names delivered_is is)

  -- a Deliver of a ticket that was not taken
  pub ticket_unknown : IsReplayed ring lines done here closed slots taken → (s t : ℕ) (lost : List ℕ) → length taken ≤ t → MayDeliver (take done lines) s t lost → ⊥
  ticket_unknown h s t lost high m =
      let low : t < count_by takes (take done lines) = ticket_low (take done lines) t h.kept.run (any_weaker (took s t) (has_ticket t) (took_ticket s t) (take done lines) m.same_seat) in
      let e : length taken ≡ count_by takes (take done lines) = h.recorded.all in
      omega (arith, high, low, e)

  -- a Deliver of a ticket that was delivered
  pub delivered_refused : IsReplayed ring lines done here closed slots taken → (s t : ℕ) (lost : List ℕ) (it : TakeRecord) → t < length taken → it ≡ get_or taken t it → it.delivered ≡ true → MayDeliver (take done lines) s t lost → ⊥
  delivered_refused h s t lost it low is e m =
      let n : IsRecorded (take done lines) t it = subst (IsRecorded (take done lines) t) (sym is) (h.recorded.each t it low) in
      both_ways _ m.in_flight (sym n.delivered_is ∙ e)

  -- a Deliver of a ticket that another participant took
  pub seat_refused : IsReplayed ring lines done here closed slots taken → (s t : ℕ) (lost : List ℕ) (it : TakeRecord) → t < length taken → it ≡ get_or taken t it → (it.seat ≡ s → ⊥) → MayDeliver (take done lines) s t lost → ⊥
  seat_refused h s t lost it low is ne m =
      let n : IsRecorded (take done lines) t it = subst (IsRecorded (take done lines) t) (sym is) (h.recorded.each t it low) in
      ne (same_taker (take done lines) it.seat s t h.kept.run (took_it (take done lines) it.seat t n.chunk it.queries n.there) m.same_seat)
