-- What a board holds after each line but a Deliver, and what its fields tell of the journal before it.
use Rattle.std.proofs.Common.{AllPairs, zero, suc, nat_lt, ◌*◌, ⊎_elim, ne_eqb, IsSome, not, ◌&&◌, ◌≡◌, ℕ, ◌==◌, Some, filter, eq-eqb, ◌+◌, ◌<◌, ◌≤◌, ◌^◌, List, [], ◌∷◌, ◌++◌, length, get_or, Bool, true, false, cond, Option, None, All, refl, sym, ◌∙◌, ap, subst, arith, count_by, length-append}
use Rattle.std.proofs.lemmas.Bool.{cases_eq, false≢true, false_from_ne_true, lt-ltb, and_parts, both_ways, cond-true, or_left, true_from_ne_false, and_from, not-true, not_from_false}
use Rattle.std.proofs.lemmas.List.Elements.{All-contains, All-push}
use Rattle.std.proofs.lemmas.List.Sums.{length-filter}
use Rattle.scan_rules.specs.declared.journal_line.JournalLine.{JournalLine}
use Rattle.scan_rules.specs.declared.journal_line.JournalLine.TheVariants.{Attach, Take, Cancel as CancelLine, Collect as CollectLine, Close}
use Rattle.std.specs.List.{list_all}
use Rattle.scan_rules.proofs.Ends.{by_cancel, by_end, by_loss, state_is}
use Rattle.scan_rules.proofs.Giving.{given_same}
use Rattle.scan_rules.proofs.Numbers.{all_from_has, has_contains}
use Rattle.scan_rules.proofs.Runs.{no_lines_run}
use Rattle.scan_rules.proofs.Scan.{attached_low, needed_query}
use Rattle.scan_rules.proofs.Serving.{standing_from}
use Rattle.scan_rules.proofs.Lists.{count_cons, any_later, any_front, any_none, count_push}
use Rattle.scan_rules.specs.Lines.{attaches, cancels, collects, is_attach, is_deliver, loses, takes}
use Rattle.scan_rules.specs.Numbers.{below, has}
use Rattle.scan_rules.specs.Queries.{is_closed, Done, is_complete, is_given, state_of, wanted, Journal, given, is_attached, is_cancelled, is_collected, is_lost, is_standing, is_running}
use Rattle.scan_rules.specs.Runs.{MayAttach, MayCollect, MayTake, IsAsked, IsRun, IsRunOver, MayFollow}
use Rattle.scan_rules.specs.Scan.{place, running_count, next_chunk, chunk_at, is_needed}
use Rattle.scan_core.specs.declared.slot.Slot.{Slot}
use Rattle.scan_core.specs.declared.answers.Collect.{Collect}
use Rattle.scan_core.specs.declared.answers.Collect.TheVariants.{Piece, NotYet, Cancelled, Spent, Gone}
use Rattle.scan_core.specs.Answers.{AnswersCollect, EndsAs, TakesTask}
use Rattle.scan_core.specs.Boards.{TaskState}
use Rattle.scan_core.specs.Changes.{AreBlank, AttachedAt, EnteredAt, Beside, StoppedAt, CollectedAt}
use Rattle.scan_core.specs.Kept.{IsAhead, Kept}
use Rattle.scan_core.specs.Pieces.{HavePieces, StandsFor}
use Rattle.scan_core.specs.Room.{is_open_end, HasRoom, to_come}
use Rattle.scan_core.specs.Slots.{runs, running_below}
use Rattle.scan_core.specs.Attaching.{ahead_in}
use Rattle.scan_core.specs.Stored.{Stored}
use Rattle.scan_core.specs.Taking.{PoppedAll, least_from, served}
use Rattle.scan_core.proofs.Attaching.{given_none, kept_attach}
use Rattle.scan_core.proofs.ScanOrder.{ahead_members, ahead_ordered}
use Rattle.scan_core.proofs.Room.{close_room, cancel_room, take_room, collect_room}
use Rattle.scan_core.proofs.Taking.{may_take, nearest_here, next_none, step_is, Nearest, kept_take, tickets_fit}
use Rattle.scan_core.proofs.Words.{empty_ahead, runs_is, some_slot, kept_close, kept_cancel, kept_collect}
use Rattle.scan_rules.proofs.Ascending.{ascending_fit}
use Rattle.scan_rules.proofs.Finding.{filter_below}
use Rattle.scan_rules.proofs.Going.{needed_is, quiet}

-- what a filter keeps where all pass
pub filter_all : (p : ℕ → Bool) (xs : List ℕ) → list_all p xs ≡ true → filter p xs ≡ xs
filter_all p [] h = refl
filter_all p (x ∷ xs) h = let a = and_parts (p x) _ h in cond-true (p x) (x ∷ filter p xs) (filter p xs) a.0 ∙ ap (λ (l : List ℕ). x ∷ l) (filter_all p xs a.1)

-- where none passes none is counted
none_in : (p : ℕ → Bool) (xs : List ℕ) → ((x : ℕ) → p x ≡ false) → count_by p xs ≡ 0
none_in p [] n = refl
none_in p (x ∷ xs) n = let i : count_by p xs ≡ 0 = none_in p xs n in count_cons p x xs ∙ (ap (λ b. cond b 1 0 + count_by p xs) (n x) ∙ omega (arith, i))

-- no more numbers below a bound pass than there are
counted_below : (p : ℕ → Bool) (n : ℕ) → count_by p (below n) ≤ n
unfolding below
counted_below p zero = omega arith
counted_below p (suc n) =
    let i : count_by p (below n) ≤ n = counted_below p n in
    let e : count_by p (below n ++ n ∷ []) ≡ count_by p (below n) + cond (p n) 1 0 = count_push p (below n) n in
    let w : cond (p n) 1 0 ≤ 1 = weight_low (p n) in
    omega (arith, i, e, w) where
      weight_low : (b : Bool) → cond b 1 0 ≤ 1
      weight_low true = omega arith
      weight_low false = omega arith

-- an open board counts 1 at most
one_at_most : (b : Bool) → cond b 0 1 ≤ 1
one_at_most true = omega arith
one_at_most false = omega arith

-- a query that stands after a line that does not attach it stood before
pub stood : (past : Journal) (line : JournalLine) (q : ℕ) → attaches q line ≡ false → is_standing (past ++ line ∷ []) q ≡ true → is_standing past q ≡ true
stood past line q n h =
    let more : Journal = past ++ line ∷ [] in
    let a = and_parts (is_attached more q) _ h in
    let b = and_parts _ _ a.1 in
    and_from _ _ (sym (any_none (attaches q) past line n) ∙ a.0)
    (and_from _ _ (not_from_false _ (any_front (cancels q) past (line ∷ []) (not-true _ b.0))) (not_from_false _ (any_front (loses q) past (line ∷ []) (not-true _ b.1))))

-- a query that stands is not cancelled
not_cancelled : (past : Journal) (q : ℕ) → is_standing past q ≡ true → is_cancelled past q ≡ false
not_cancelled past q up = let a = and_parts (is_attached past q) _ up in not-true _ (and_parts (not (is_cancelled past q)) _ a.1).0

module _ {P : Type 0} {stands : ℕ → List ℕ → P → Type 0} where
  -- the pieces still stand after a line that attaches and delivers nothing, where those that are asked for stay
  pub held_after : (ring : ℕ) (pieces after : List (Option P)) (past : Journal) (line : JournalLine) → IsRun ring past → MayFollow ring past line → is_attach line ≡ false → is_deliver line ≡ false → HavePieces stands pieces past → length after ≡ length pieces → ((q : ℕ) (d : Option P) → is_standing (past ++ line ∷ []) q ≡ true → is_collected (past ++ line ∷ []) q ≡ false → get_or after q d ≡ get_or pieces q d) → HavePieces stands after (past ++ line ∷ [])
  held_after ring pieces after past line run m na nd held len same = record {
    full = len ∙ held.full;
    each = λ q d low up out.
        let before : is_standing past q ≡ true = stood past line q (quiet line na q).0 up in
        let kept : is_collected past q ≡ false = any_front (collects q) past (line ∷ []) out in
        let given_is = given_same ring past line q run m (and_parts (is_attached past q) _ before).0 nd in
        subst (StandsFor (stands q) (given (past ++ line ∷ []) q)) (sym (same q d up out))
        (subst (λ (l : List ℕ). StandsFor (stands q) l (get_or pieces q d)) (sym given_is) (held.each q d low before kept));
  }

module _ {P : Type 0} {asks : ℕ → ℕ → Type 0} {stands : ℕ → List ℕ → P → Type 0} {ring here tickets flights : ℕ} {closed : Bool} {slots : List Slot} {pieces : List (Option P)} {capacity : ℕ} {past : Journal} where
  -- there is room for a line that uses some up
  pub room_for : Stored asks stands ring here tickets flights closed slots pieces capacity past → (line : JournalLine) → to_come ring (past ++ line ∷ []) + 1 ≤ to_come ring past → length past < capacity
  room_for h line less =
      let room : length past + to_come ring past ≤ capacity + count_by is_deliver past = h.room in
      let flying : flights + count_by is_deliver past ≡ count_by takes past = h.flying in
      let t : count_by takes (past ++ line ∷ []) ≡ count_by takes past + cond (takes line) 1 0 = count_push takes past line in
      omega (arith, room, flying, less, t)

  -- and the room that is left is for those that may still come
  room_line : Stored asks stands ring here tickets flights closed slots pieces capacity past → (line : JournalLine) → is_deliver line ≡ false → to_come ring (past ++ line ∷ []) + 1 ≤ to_come ring past → HasRoom ring capacity (past ++ line ∷ [])
  room_line h line nd less =
      let room : length past + to_come ring past ≤ capacity + count_by is_deliver past = h.room in
      let l : length (past ++ line ∷ []) ≡ length past + 1 = length-append past (line ∷ []) in
      let d : count_by is_deliver (past ++ line ∷ []) ≡ count_by is_deliver past = count_push is_deliver past line ∙ (ap (λ b. count_by is_deliver past + cond b 1 0) nd ∙ omega arith) in
      omega (arith, room, less, l, d)

  -- a line that is no Attach and no Deliver
  stored_line : Stored asks stands ring here tickets flights closed slots pieces capacity past → (line : JournalLine) → is_deliver line ≡ false → IsAsked asks line → to_come ring (past ++ line ∷ []) + 1 ≤ to_come ring past → {here2 tickets2 flights2 : ℕ} {closed2 : Bool} {slots2 : List Slot} {pieces2 : List (Option P)} → Kept ring here2 tickets2 closed2 slots2 (past ++ line ∷ []) → HavePieces stands pieces2 (past ++ line ∷ []) → flights2 ≡ flights + cond (takes line) 1 0 → Stored asks stands ring here2 tickets2 flights2 closed2 slots2 pieces2 capacity (past ++ line ∷ [])
  stored_line h line nd asked less {flights2 = flights2} kept held f =
      let flying : flights + count_by is_deliver past ≡ count_by takes past = h.flying in
      let t : count_by takes (past ++ line ∷ []) ≡ count_by takes past + cond (takes line) 1 0 = count_push takes past line in
      let d : count_by is_deliver (past ++ line ∷ []) ≡ count_by is_deliver past = count_push is_deliver past line ∙ (ap (λ b. count_by is_deliver past + cond b 1 0) nd ∙ omega arith) in
      record {
        kept = kept;
        asked = All-push (IsAsked asks) past line h.asked asked;
        held = held;
        flying = omega (arith, flying, t, d, f);
        room = room_line h line nd less;
      }

  -- a Close
  pub close_fits : Stored asks stands ring here tickets flights closed slots pieces capacity past → closed ≡ false → (s : ℕ) → length past < capacity
  close_fits h e s = room_for h (Close s) (close_room ring past s (sym h.kept.closes ∙ e))

  -- after it
  pub stored_close : Stored asks stands ring here tickets flights closed slots pieces capacity past → closed ≡ false → (s : ℕ) → Stored asks stands ring here tickets flights true slots pieces capacity (past ++ Close s ∷ [])
  stored_close h e s =
      let m : MayFollow ring past (Close s) = sym h.kept.closes ∙ e in
      stored_line h (Close s) refl (record {}) (close_room ring past s m)
      (kept_close ring here tickets closed slots past s h.kept e)
      (held_after ring pieces pieces past (Close s) h.kept.run m refl refl h.held refl (λ q d a b. refl))
      (omega arith)

  -- a Cancel
  pub cancel_fits : Stored asks stands ring here tickets flights closed slots pieces capacity past → (s q : ℕ) → is_running past q ≡ true → length past < capacity
  cancel_fits h s q m = room_for h (CancelLine s q) (cancel_room ring past s q h.kept.run m)

  -- after it
  pub stored_cancel : Stored asks stands ring here tickets flights closed slots pieces capacity past → (s q : ℕ) → is_running past q ≡ true → (after : List Slot) → StoppedAt slots after q → (left : List (Option P)) → Beside pieces left q → Stored asks stands ring here tickets flights closed after left capacity (past ++ CancelLine s q ∷ [])
  stored_cancel h s q m after t left b =
      stored_line h (CancelLine s q) refl (record {}) (cancel_room ring past s q h.kept.run m)
      (kept_cancel ring here tickets closed slots after past s q h.kept m t)
      (held_after ring pieces left past (CancelLine s q) h.kept.run m refl refl h.held b.len
      (λ j d up out. b.other j d (λ e. both_ways _ (not_cancelled (past ++ CancelLine s q ∷ []) j up) (any_later (cancels j) past (CancelLine s q ∷ []) (or_left (q == j) false (eq-eqb q j (sym e)))))))
      (omega arith)

  -- a Take
  pub take_fits : Stored asks stands ring here tickets flights closed slots pieces capacity past → (d c : ℕ) → Nearest ring slots past d c → (s t : ℕ) (queries : List ℕ) → MayFollow ring past (Take s t c queries) → length past < capacity
  take_fits h d c n s t queries m = room_for h (Take s t c queries) (take_room ring past s t c queries h.kept.run n.chunk_low (needed_is ring past c m.next) m)

  -- after it
  pub stored_take : Stored asks stands ring here tickets flights closed slots pieces capacity past → (d c : ℕ) → Nearest ring slots past d c → (s t : ℕ) (queries : List ℕ) → MayFollow ring past (Take s t c queries) → (after : List Slot) → PoppedAll c slots after 256 → Stored asks stands ring (chunk_at ring c 1) (tickets + 1) (flights + 1) closed after pieces capacity (past ++ Take s t c queries ∷ [])
  stored_take h d c n s t queries m after pop =
      stored_line h (Take s t c queries) refl (record {}) (take_room ring past s t c queries h.kept.run n.chunk_low (needed_is ring past c m.next) m)
      (kept_take h.kept d c n s t queries m after pop)
      (held_after ring pieces pieces past (Take s t c queries) h.kept.run m refl refl h.held refl (λ j e a b. refl))
      refl

  -- the tasks in flight fit in 32 bits
  pub flights_fit : Stored asks stands ring here tickets flights closed slots pieces capacity past → flights < 2 ^ 23
  flights_fit h =
      let flying : flights + count_by is_deliver past ≡ count_by takes past = h.flying in
      let counted : tickets ≡ count_by takes past = h.kept.counted in
      let low : tickets < 2 ^ 23 = tickets_fit h.kept in
      omega (arith, flying, counted, low)

  -- the journal of what is stored is a run over the root
  pub lawful : Stored asks stands ring here tickets flights closed slots pieces capacity past → IsRunOver ring asks past
  lawful h = record { run = h.kept.run; asked = h.asked }

  -- the least step leads to the nearest chunk
  pub found : Stored asks stands ring here tickets flights closed slots pieces capacity past → (d c : ℕ) → d ≡ least_from ring here ring slots → d < ring → c ≡ chunk_at ring here d → Nearest ring slots past d c
  found h d c least low at = nearest_here h.kept d c (step_is h.kept d least) low at

  -- which may be taken now, for the slots that need it
  pub may_be_taken : Stored asks stands ring here tickets flights closed slots pieces capacity past → (d c : ℕ) → d ≡ least_from ring here ring slots → Nearest ring slots past d c → (queries : List ℕ) → ((b : Slot) → queries ≡ served slots b c 256) → MayTake ring past tickets c queries
  may_be_taken h d c least n queries all = may_take h.kept d c (step_is h.kept d least) n 0 tickets queries refl all

  -- where the least step is the ring's length, nothing is needed
  pub none_found : Stored asks stands ring here tickets flights closed slots pieces capacity past → (d : ℕ) → d ≡ least_from ring here ring slots → ring ≤ d → next_chunk ring past ≡ None
  none_found h d least high = next_none h.kept d (step_is h.kept d least) high

  -- the task and the line of its take name the same queries
  pub same_served : Stored asks stands ring here tickets flights closed slots pieces capacity past → (c : ℕ) (queries set : List ℕ) → ((b : Slot) → queries ≡ served slots b c 256) → ((b : Slot) → set ≡ served slots b c 256) → queries ≡ set
  same_served h c queries set a b = let full : length slots ≡ 256 = h.kept.full in let d : Slot = some_slot 0 slots (omega (arith, full)) in a d ∙ sym (b d)

  -- a Collect
  pub collect_fits : Stored asks stands ring here tickets flights closed slots pieces capacity past → (s q : ℕ) → MayFollow ring past (CollectLine s q) → length past < capacity
  collect_fits h s q m = room_for h (CollectLine s q) (collect_room ring past s q h.kept.run m)

  -- after it
  pub stored_collect : Stored asks stands ring here tickets flights closed slots pieces capacity past → (s q : ℕ) → MayFollow ring past (CollectLine s q) → (after : List Slot) → CollectedAt slots after q → (left : List (Option P)) → Beside pieces left q → Stored asks stands ring here tickets flights closed after left capacity (past ++ CollectLine s q ∷ [])
  stored_collect h s q m after t left b =
      stored_line h (CollectLine s q) refl (record {}) (collect_room ring past s q h.kept.run m)
      (kept_collect ring here tickets closed slots after past s q h.kept m t)
      (held_after ring pieces left past (CollectLine s q) h.kept.run m refl refl h.held b.len
      (λ j d up out. b.other j d (λ e. both_ways _ out (any_later (collects j) past (CollectLine s q ∷ []) (or_left (q == j) false (eq-eqb q j (sym e)))))))
      (omega arith)

  -- a query that may be collected, and is neither cancelled nor lost, is done and has its whole piece
  pub whole_piece : Stored asks stands ring here tickets flights closed slots pieces capacity past → (q : ℕ) → MayCollect past q → is_cancelled past q ≡ false → is_lost past q ≡ false → (d : Option P) → (state_of past q ≡ Done) × StandsFor (stands q) (wanted past q) (get_or pieces q d)
  whole_piece h q m nc nl d =
      let a = and_parts (is_attached past q) _ m.ended in
      let up : is_standing past q ≡ true = standing_from past q a.0 nc nl in
      let all : is_complete past q ≡ true = true_from_ne_false _ (λ f. both_ways _ (not-true _ a.1) (and_from _ _ up (not_from_false _ f))) in
      let low = (attached_low past q h.kept.run a.0).1 in
      ((state_is past q a.0 (by_end nc nl all)).0, subst (λ (l : List ℕ). StandsFor (stands q) l (get_or pieces q d)) (filter_all (is_given past q) (wanted past q) all) (h.held.each q d low up m.not_yet))

  -- so does the piece that is taken out
  pub whole_taken : Stored asks stands ring here tickets flights closed slots pieces capacity past → (q : ℕ) → MayCollect past q → is_cancelled past q ≡ false → is_lost past q ≡ false → (piece : Option P) → piece ≡ get_or pieces q piece → (state_of past q ≡ Done) × StandsFor (stands q) (wanted past q) piece
  whole_taken h q m nc nl piece e = let w = whole_piece h q m nc nl piece in (w.0, subst (StandsFor (stands q) (wanted past q)) (sym e) w.1)

  -- what a slot says of how its query ended
  pub flags_told : Stored asks stands ring here tickets flights closed slots pieces capacity past → (q : ℕ) → q < 256 → (b : Bool) → (l : Bool) → ((d : Slot) → b ≡ (get_or slots q d).cancelled) → ((d : Slot) → l ≡ (get_or slots q d).lost) → (is_cancelled past q ≡ b) × (is_lost past q ≡ l)
  flags_told h q low b l eb el =
      let full : length slots ≡ 256 = h.kept.full in
      let d : Slot = some_slot q slots (omega (arith, full, low)) in
      let w = (h.kept.each q d low).words in
      (sym (eb d ∙ w.cancelled), sym (el d ∙ w.lost))

  -- the slots that run are the queries that run
  pub running_told : Stored asks stands ring here tickets flights closed slots pieces capacity past → (count : ℕ) → ((d : Slot) → count ≡ running_below slots d 256) → count ≡ running_count past
  running_told h count e =
      let full : length slots ≡ 256 = h.kept.full in
      let d : Slot = some_slot 0 slots (omega (arith, full)) in
      e d ∙ (sym (length-filter (λ q. runs (get_or slots q d)) (below 256)) ∙ (ap length (filter_below 256 (λ q. runs (get_or slots q d)) (is_running past) (λ q l. runs_is past q (get_or slots q d) (h.kept.each q d l).words)) ∙ length-filter (is_running past) (below 256)))

  -- what an attach asks, by the fields
  pub may_attach : Stored asks stands ring here tickets flights closed slots pieces capacity past → (q : ℕ) (chunks : List ℕ) → closed ≡ false → 1 ≤ q → q ≤ 255 → (b : Bool) → ((d : Slot) → b ≡ (get_or slots q d).attached) → b ≡ false → (count : ℕ) → ((d : Slot) → count ≡ running_below slots d 256) → count < 64 → All (λ chunk. chunk < ring) chunks → MayAttach ring past q chunks
  may_attach h q chunks not_closed low high b told fresh count e few in_ring =
      let full : length slots ≡ 256 = h.kept.full in
      let d : Slot = some_slot 0 slots (omega (arith, full)) in
      let n : count ≡ running_count past = running_told h count e in
      record {
        not_closed = sym h.kept.closes ∙ not_closed;
        from_1 = low;
        to_255 = omega (arith, high);
        fresh = sym (told d ∙ (h.kept.each q d (omega (arith, high))).words.attached) ∙ fresh;
        room = omega (arith, n, few);
        in_ring = all_from_has (λ chunk. nat_lt chunk ring) chunks (λ x t. lt-ltb x ring (All-contains (λ chunk. chunk < ring) chunks x in_ring (has_contains chunks x t)));
      }

  -- whether the query was attached before
  pub attached_told : Stored asks stands ring here tickets flights closed slots pieces capacity past → (q : ℕ) → q < 256 → (b : Bool) → ((d : Slot) → b ≡ (get_or slots q d).attached) → is_attached past q ≡ b
  attached_told h q low b told =
      let full : length slots ≡ 256 = h.kept.full in
      let d : Slot = some_slot 0 slots (omega (arith, full)) in
      sym (told d ∙ (h.kept.each q d low).words.attached)

  -- a list of a ring is no longer than the ring
  pub list_fits : Stored asks stands ring here tickets flights closed slots pieces capacity past → (chunks : List ℕ) → AllPairs (λ a b. a < b) chunks → All (λ chunk. chunk < ring) chunks → length chunks ≤ 16384
  list_fits h chunks up in_ring =
      let small : ring ≤ 16384 = h.kept.small in
      let fit : 0 + length chunks ≤ ring = ascending_fit ring 0 chunks up (λ x t. (omega arith, All-contains (λ chunk. chunk < ring) chunks x in_ring (has_contains chunks x t))) (omega arith) in
      omega (arith, small, fit)

  -- the slot of a query that is attached
  entered : Stored asks stands ring here tickets flights closed slots pieces capacity past → (q : ℕ) (chunks : List ℕ) → AllPairs (λ a b. a < b) chunks → All (λ chunk. chunk < ring) chunks → (after : List Slot) → EnteredAt (length chunks) (ahead_in here chunks) slots after q → AttachedAt ring (place ring past) chunks slots after q
  entered h q chunks up in_ring after e = record {
    beside = e.beside;
    here = λ d. let n = e.here d in record {
      attached = n.attached;
      cancelled = n.cancelled;
      lost = n.lost;
      collected = n.collected;
      owed = n.owed_is;
      members = λ x. ap (λ (l : List ℕ). has l x) n.ahead_is ∙ ahead_members here chunks x;
      ordered = subst (λ p. IsAhead ring p (get_or after q d).ahead.items) h.kept.stands (subst (IsAhead ring here) (sym n.ahead_is) (ahead_ordered ring here chunks h.kept.low up (λ x t. All-contains (λ chunk. chunk < ring) chunks x in_ring (has_contains chunks x t))));
    };
  }

  -- an Attach, with room for all that may follow
  pub stored_attach : Stored asks stands ring here tickets flights closed slots pieces capacity past → (s q : ℕ) (chunks : List ℕ) (empty : P) → MayAttach ring past q chunks → AllPairs (λ a b. a < b) chunks → All (λ chunk. chunk < ring) chunks → All (asks q) chunks → stands q [] empty → (after : List Slot) → EnteredAt (length chunks) (ahead_in here chunks) slots after q → (put : List (Option P)) → Beside pieces put q → ((d : Option P) → get_or put q d ≡ Some empty) → (more : ℕ) → length past + (322 + 2 * ring + flights) ≤ more → Stored asks stands ring here tickets flights closed after put more (past ++ Attach s q chunks ∷ [])
  stored_attach h s q chunks empty m up in_ring asked nothing after e put beside there more room =
      let line : JournalLine = Attach s q chunks in
      let kept = kept_attach ring here tickets closed slots after past s q chunks h.kept m up (entered h q chunks up in_ring after e) in
      let flying : flights + count_by is_deliver past ≡ count_by takes past = h.flying in
      let t : count_by takes (past ++ line ∷ []) ≡ count_by takes past + 0 = count_push takes past line in
      let d : count_by is_deliver (past ++ line ∷ []) ≡ count_by is_deliver past + 0 = count_push is_deliver past line in
      let l : length (past ++ line ∷ []) ≡ length past + 1 = length-append past (line ∷ []) in
      let u : count_by (is_needed (past ++ line ∷ [])) (below ring) ≤ ring = counted_below (is_needed (past ++ line ∷ [])) ring in
      let r : running_count (past ++ line ∷ []) ≤ 64 = kept.few in
      let k : count_by (is_open_end (past ++ line ∷ [])) (below 256) ≤ 256 = counted_below (is_open_end (past ++ line ∷ [])) 256 in
      let o : cond (is_closed (past ++ line ∷ [])) 0 1 ≤ 1 = one_at_most (is_closed (past ++ line ∷ [])) in
      record {
        kept = kept;
        asked = All-push (IsAsked asks) past line h.asked asked;
        held = record {
          full = beside.len ∙ h.held.full;
          each = λ j z low stood_now out. ⊎_elim
              (λ f. subst (λ x. StandsFor (stands x) (given (past ++ line ∷ []) x) (get_or put x z)) (sym f)
              (subst (λ (g : List ℕ). StandsFor (stands q) g (get_or put q z)) (sym (given_none ring past s q chunks h.kept.run m)) (record { it = empty; there = there z; for = nothing })))
              (λ n. let before : is_standing past j ≡ true = stood past line j (ne_eqb q j (λ f. n (sym f))) stood_now in
              subst (λ (g : List ℕ). StandsFor (stands j) g (get_or put j z)) (sym (given_same ring past line j h.kept.run m (and_parts (is_attached past j) _ before).0 refl))
              (subst (StandsFor (stands j) (given past j)) (sym (beside.other j z n)) (h.held.each j z low before (any_front (collects j) past (line ∷ []) out))))
              (cases_eq j q);
        };
        flying = omega (arith, flying, t, d);
        room = omega (arith, flying, t, d, l, u, r, k, o, room);
      }

-- the fields of a board without lines
pub kept_new : (ring : ℕ) (slots : List Slot) → ring ≤ 16384 → AreBlank slots 256 → Kept ring 0 0 false slots []
kept_new ring slots small blank = record {
  small = small;
  low = omega arith;
  run = no_lines_run ring;
  stands = refl;
  counted = refl;
  closes = refl;
  full = blank.len;
  few = subst (λ n. n ≤ 64) (sym (none_in (is_running []) (below 256) (λ q. refl))) (omega arith);
  each = λ q d low. let b = blank.each q d low in record {
    words = record { attached = b.attached; cancelled = b.cancelled; lost = b.lost; collected = b.collected; owed = b.owed };
    ahead = λ c. ap (λ (l : List ℕ). has l c) b.ahead;
    ordered = subst (IsAhead ring (place ring [])) (sym b.ahead) (empty_ahead ring (place ring []));
  };
  ascend = λ q i j d l m. absurd (omega (arith, m));
}

-- what may be said of no lines
pub stored_new : {P : Type 0} (asks : ℕ → ℕ → Type 0) (stands : ℕ → List ℕ → P → Type 0) (ring : ℕ) (slots : List Slot) (pieces : List (Option P)) (capacity : ℕ) → ring ≤ 16384 → AreBlank slots 256 → length pieces ≡ 256 → 1 ≤ capacity → Stored asks stands ring 0 0 0 false slots pieces capacity []
stored_new asks stands ring slots pieces capacity small blank full room = record {
  kept = kept_new ring slots small blank;
  asked = λ k d l. absurd (omega (arith, l));
  held = record { full = full; each = λ q d low up out. absurd (false≢true up) };
  flying = refl;
  room =
      let u : count_by (is_needed []) (below ring) ≡ 0 = none_in (is_needed []) (below ring) (λ c. false_from_ne_true _ (λ t. let w = needed_query [] c t in false≢true w.1.attached)) in
      let r : running_count [] ≡ 0 = none_in (is_running []) (below 256) (λ q. refl) in
      let k : count_by (is_open_end []) (below 256) ≡ 0 = none_in (is_open_end []) (below 256) (λ q. refl) in
      omega (arith, u, r, k, room);
}

-- a piece that stands for something is there
pub piece_there : {P : Type 0} (stands : List ℕ → P → Type 0) (chunks : List ℕ) (piece : Option P) → StandsFor stands chunks piece → IsSome piece
piece_there stands chunks piece s = rw s.there refl

-- a query that does not wait to be collected was collected, if it was attached
pub gone_tells : (past : Journal) (q : ℕ) → (is_attached past q && not (is_collected past q)) ≡ false → is_attached past q ≡ true → is_collected past q ≡ true
gone_tells past q h a = true_from_ne_false _ (λ f. both_ways _ h (and_from _ _ a (not_from_false _ f)))

-- a task as its take tells it
pub takes_task : {R : Type 0} (root : R) (ring seat tickets c : ℕ) (past lines : Journal) (set queries : List ℕ) (task : TaskState) → MayTake ring past tickets c set → lines ≡ past ++ Take seat tickets c set ∷ [] → queries ≡ set → task.ticket ≡ tickets → task.chunk ≡ c → task.queries ≡ queries → TakesTask {R = R} seat (record { root = root; ring = ring; past = past }) (record { root = root; ring = ring; past = lines }) task.ticket task.chunk task.queries
takes_task root ring seat tickets c past lines set queries task m line same t n q = rw (t, n, q, same, line) (record { may = m; line = refl })

-- the answer of a collect that hands an end out
pub answers_collect : {R P : Type 0} (stands : R → ℕ → List ℕ → P → Type 0) (root : R) (ring seat q : ℕ) (past lines : Journal) (b l : Bool) (piece : Option P) (answer : Collect P) → MayCollect past q → is_cancelled past q ≡ b → is_lost past q ≡ l → (is_cancelled past q ≡ false → is_lost past q ≡ false → (state_of past q ≡ Done) × StandsFor (stands root q) (wanted past q) piece) → EndsAs b l piece answer → lines ≡ past ++ CollectLine seat q ∷ [] → AnswersCollect stands seat (record { root = root; ring = ring; past = past }) q answer (record { root = root; ring = ring; past = lines })
answers_collect stands root ring seat q past lines b l piece Cancelled m eb el whole e line = rw line (record { ended = (state_is past q (and_parts (is_attached past q) _ m.ended).0 (by_cancel (eb ∙ e))).0; not_yet = m.not_yet; line = refl })
answers_collect stands root ring seat q past lines b l piece Spent m eb el whole e line = rw line (record { ended = (state_is past q (and_parts (is_attached past q) _ m.ended).0 (by_loss (eb ∙ e.0) (el ∙ e.1))).0; not_yet = m.not_yet; line = refl })
answers_collect {P = P} stands root ring seat q past lines b l piece (Piece it) m eb el whole e line =
    let w = whole (eb ∙ e.0) (el ∙ e.1) in
    let same : w.1.it ≡ it = (let a = w.1.there in let b = e.2 in cc) in
    rw line (record { ended = w.0; not_yet = m.not_yet; line = refl }, subst (stands root q (wanted past q)) same w.1.for)
answers_collect stands root ring seat q past lines b l piece NotYet m eb el whole e line = absurd e
answers_collect stands root ring seat q past lines b l piece Gone m eb el whole e line = absurd e
