-- What a board holds after a Deliver.
use Rattle.std.proofs.Common.{◌≡◌, ℕ, ◌+◌, ◌-◌, ◌<◌, ◌≤◌, ◌==◌, List, [], ◌∷◌, ◌++◌, length, get_or, Bool, true, false, not, Option, Some, None, IfSome, zero, suc, ⊎_elim, refl, sym, ◌∙◌, ap, subst, arith, count_by, filter, length-append, ◌||◌, ◌&&◌}
use Rattle.std.specs.List.{list_any}
use Rattle.std.proofs.lemmas.Bool.{and_from, and_parts, both_ways, cases_Bool, not-true, cases_lt, false_from_ne_true, not_from_false, or_left, true_from_ne_false}
use Rattle.std.proofs.lemmas.List.Elements.{All-push}
use Rattle.std.proofs.lemmas.List.Sorted.{IsPermutation-middle, IsPermutation-sym}
use Rattle.std.specs.List.Sorted.{IsPermutation}
use Rattle.scan_rules.specs.declared.journal_line.JournalLine.{JournalLine}
use Rattle.scan_rules.specs.declared.journal_line.JournalLine.TheVariants.{Deliver}
use Rattle.scan_rules.proofs.Lists.{any_front, any_later, any_none, any_push, count_push, flat_none}
use Rattle.scan_rules.proofs.Numbers.{all_from_has, all_has, count_le, has_filter}
use Rattle.scan_rules.proofs.Runs.{run_more}
use Rattle.scan_rules.proofs.Scan.{place_other}
use Rattle.scan_rules.specs.Lines.{attaches, cancels, chunks_for, closes, collects, is_deliver, loses, names_with, takes}
use Rattle.scan_rules.specs.Numbers.{below, has}
use Rattle.scan_rules.specs.Queries.{Journal, given, is_attached, is_cancelled, is_collected, is_delivered, is_given, is_lost, is_running, is_standing, wanted}
use Rattle.scan_rules.specs.Runs.{IsAsked, MayDeliver, MayFollow}
use Rattle.scan_rules.specs.Scan.{place, running_count}
use Rattle.scan_core.specs.declared.slot.Slot.{Slot}
use Rattle.scan_core.specs.Boards.{TaskState}
use Rattle.scan_core.specs.Delivering.{Absorbed, AllOwed, DeliversTask, FitAll, Fitting, HandedIn, Paid, PaidAll, PiecesFit, RefusedAll, Refuses}
use Rattle.scan_core.specs.Kept.{Fits, IsAhead, Kept, owed_in}
use Rattle.scan_core.specs.Pieces.{Absorbs, HavePieces, IsOneMore, StandsFor}
use Rattle.scan_core.specs.Room.{to_come}
use Rattle.scan_core.specs.Slots.{runs}
use Rattle.scan_core.specs.Stored.{Stored}
use Rattle.scan_core.proofs.Delivering.{Flight, gives_other, gives_task, owed_less, owed_other}
use Rattle.scan_core.proofs.Room.{deliver_room}
use Rattle.scan_core.proofs.Storing.{stood}
use Rattle.scan_core.proofs.Words.{empty_ahead, runs_is, some_slot}
use Rattle.scan_rules.proofs.Ascending.{ascending_distinct, filter_on, has_at, has_index, splits}
use Rattle.scan_rules.proofs.Going.{ascend_same, collected_rests, lost_needs_none, needs_deliver, none_taken, runs_fall}
use Rattle.scan_rules.proofs.Lengths.{delivers_few}

-- beyond the end of a list its default is read
beyond_end : {X : Type 0} (xs : List X) (k : ℕ) (d : X) → length xs ≤ k → get_or xs k d ≡ d
beyond_end [] k d l = refl
beyond_end (x ∷ xs) zero d l = absurd (omega (arith, l))
beyond_end (x ∷ xs) (suc k) d l = beyond_end xs k d (omega (arith, l))

-- and before it whatever the default is
any_default : {X : Type 0} (xs : List X) (k : ℕ) (d e : X) → k < length xs → get_or xs k d ≡ get_or xs k e
any_default [] k d e l = absurd (omega (arith, l))
any_default (x ∷ xs) zero d e l = refl
any_default (x ∷ xs) (suc k) d e l = any_default xs k d e (omega (arith, l))

-- a query that stands is not lost
not_gone : (past : Journal) (q : ℕ) → is_standing past q ≡ true → is_lost past q ≡ false
not_gone past q up = let a = and_parts (is_attached past q) _ up in not-true _ (and_parts (not (is_cancelled past q)) _ a.1).1

-- where no query of the task has this number
no_turn : (queries : List ℕ) (j : ℕ) → has queries j ≡ false → (turn : ℕ) → turn < length queries → get_or queries turn 0 ≡ j → ⊥
no_turn queries j f turn l e = both_ways _ f (subst (λ z. has queries z ≡ true) e (has_at queries turn 0 l))

-- what stands for a chunk that came
entry_stands : {P : Type 0} (stands : ℕ → List ℕ → P → Type 0) (c : ℕ) (queries : List ℕ) (entries : List (Option P)) → PiecesFit stands c queries entries → (turn : ℕ) (piece : P) → get_or entries turn None ≡ Some piece → stands (get_or queries turn 0) (c ∷ []) piece
entry_stands stands c queries entries fit turn piece e = ⊎_elim
    (λ l. subst (λ o. IfSome o (λ p. stands (get_or queries turn 0) (c ∷ []) p)) e (fit.each turn l))
    (λ l. let n : get_or entries turn None ≡ None = beyond_end entries turn None l in absurd (cc))
    (cases_lt turn (length entries))

module _ {ring here tickets : ℕ} {closed : Bool} {slots : List Slot} {past : Journal} where
  -- a slot that runs is a query that runs
  pub run_told : Kept ring here tickets closed slots past → (q : ℕ) → q < 256 → (d : Slot) → runs (get_or slots q d) ≡ is_running past q
  run_told k q low d = runs_is past q (get_or slots q d) (k.each q d low).words

  -- each query of a task in flight is owed a chunk
  pub all_owed : Kept ring here tickets closed slots past → (s t c : ℕ) (queries : List ℕ) → Flight past s t c queries → AllOwed slots queries
  all_owed k s t c queries f = record {
    each = λ turn d l.
        let q : ℕ = get_or queries turn 0 in
        let e : (get_or slots q d).owed ≡ owed_in past q = (k.each q d (f.tasked.to_255 turn l)).words.owed in
        let o : owed_in (past ++ Deliver 0 t [] ∷ []) q + 1 ≡ owed_in past q = owed_less f 0 [] q (ascending_distinct (wanted past q) (k.ascend q)) (has_at queries turn 0 l) in
        omega (arith, e, o);
  }

  -- the slots after a Deliver
  paid_fits : Kept ring here tickets closed slots past → (s t c : ℕ) (queries lost : List ℕ) → Flight past s t c queries → MayFollow ring past (Deliver s t lost) → (q : ℕ) (old new : Slot) → has queries q ≡ true → Fits ring past q old → Paid (has lost q) old new → Fits ring (past ++ Deliver s t lost ∷ []) q new
  paid_fits k s t c queries lost f m q old new h fit p =
      let line : JournalLine = Deliver s t lost in
      let w = fit.words in
      record {
        words = record {
          attached = p.attached ∙ (w.attached ∙ sym (any_none (attaches q) past line refl));
          cancelled = p.cancelled ∙ (w.cancelled ∙ sym (any_none (cancels q) past line refl));
          lost = p.gone ∙ (ap (λ b. b || has lost q) w.lost ∙ sym (any_push (loses q) past line));
          collected = p.collected ∙ (w.collected ∙ sym (any_none (collects q) past line refl));
          owed =
              let a : new.owed + 1 ≡ old.owed = p.owed in
              let b : old.owed ≡ owed_in past q = w.owed in
              let o : owed_in (past ++ line ∷ []) q + 1 ≡ owed_in past q = owed_less f s lost q (ascending_distinct (wanted past q) (k.ascend q)) h in
              omega (arith, a, b, o);
        };
        ahead = λ x. ⊎_elim
            (λ y. ap (λ (l : List ℕ). has l x) (p.cleared y) ∙ sym (lost_needs_none past s t lost q x y))
            (λ n. ap (λ (l : List ℕ). has l x) (p.kept n) ∙ (fit.ahead x ∙ sym (needs_deliver ring past s t lost q x m n)))
            (cases_Bool (has lost q));
        ordered = subst (λ z. IsAhead ring z new.ahead.items) (sym (place_other ring past line refl)) (⊎_elim
            (λ y. subst (IsAhead ring (place ring past)) (sym (p.cleared y)) (empty_ahead ring (place ring past)))
            (λ n. subst (IsAhead ring (place ring past)) (sym (p.kept n)) fit.ordered)
            (cases_Bool (has lost q)));
      }

  -- and those of other queries
  unpaid_fits : Kept ring here tickets closed slots past → (s t c : ℕ) (queries lost : List ℕ) → Flight past s t c queries → MayFollow ring past (Deliver s t lost) → (q : ℕ) (slot : Slot) → has queries q ≡ false → has lost q ≡ false → Fits ring past q slot → Fits ring (past ++ Deliver s t lost ∷ []) q slot
  unpaid_fits k s t c queries lost f m q slot n kept fit =
      let line : JournalLine = Deliver s t lost in
      let w = fit.words in
      record {
        words = record {
          attached = w.attached ∙ sym (any_none (attaches q) past line refl);
          cancelled = w.cancelled ∙ sym (any_none (cancels q) past line refl);
          lost = w.lost ∙ sym (any_none (loses q) past line kept);
          collected = w.collected ∙ sym (any_none (collects q) past line refl);
          owed = w.owed ∙ sym (owed_other f s lost q n);
        };
        ahead = λ x. fit.ahead x ∙ sym (needs_deliver ring past s t lost q x m kept);
        ordered = subst (λ z. IsAhead ring z slot.ahead.items) (sym (place_other ring past line refl)) fit.ordered;
      }

  -- so each slot fits
  pub kept_deliver : Kept ring here tickets closed slots past → (s t c : ℕ) (queries lost : List ℕ) → Flight past s t c queries → MayFollow ring past (Deliver s t lost) → ((q : ℕ) → has lost q ≡ true → has queries q ≡ true) → (after : List Slot) → PaidAll queries lost slots after (length queries) → Kept ring here tickets closed after (past ++ Deliver s t lost ∷ [])
  kept_deliver k s t c queries lost f m among after p =
      let line : JournalLine = Deliver s t lost in
      let few : running_count past ≤ 64 = k.few in
      let less : running_count (past ++ line ∷ []) ≤ running_count past = count_le (is_running past) (is_running (past ++ line ∷ [])) (below 256) (λ q h. runs_fall ring past line q m refl h) in
      record {
        small = k.small;
        low = k.low;
        run = run_more past line k.run m;
        stands = k.stands ∙ sym (place_other ring past line refl);
        counted = k.counted ∙ sym (none_taken past line refl);
        closes = k.closes ∙ sym (any_none closes past line refl);
        full = p.len ∙ k.full;
        few = omega (arith, few, less);
        each = λ q d l. ⊎_elim
            (λ y. let w = has_index queries q 0 y in
            paid_fits k s t c queries lost f m q (get_or slots q d) (get_or after q d) y (k.each q d l)
            (subst (λ z. Paid (has lost z) (get_or slots z d) (get_or after z d)) w.2 (p.each w.0 d w.1)))
            (λ n. subst (Fits ring (past ++ line ∷ []) q) (sym (p.other q d (no_turn queries q n)))
            (unpaid_fits k s t c queries lost f m q (get_or slots q d) n (false_from_ne_true _ (λ y. both_ways _ n (among q y))) (k.each q d l)))
            (cases_Bool (has queries q));
        ascend = λ q. ascend_same past line q refl (k.ascend q);
      }

-- a query of a task has a piece, and what is given to it goes on by the chunk, which it was not given before
record Grows {P : Type 0} (stands : ℕ → List ℕ → P → Type 0) (pieces : List (Option P)) (past : Journal) (s t c q : ℕ) : Type 0 where
  pub piece : (d : Option P) → StandsFor (stands q) (given past q) (get_or pieces q d)
  pub further : has (given past q) c ≡ false
  pub later : (lost : List ℕ) → IsOneMore (given past q) c (given (past ++ Deliver s t lost ∷ []) q)

module _ {R P : Type 0} (stands : R → ℕ → List ℕ → P → Type 0) (root : R) {asks : ℕ → ℕ → Type 0} {ring here tickets flights : ℕ} {closed : Bool} {slots : List Slot} {pieces : List (Option P)} {capacity : ℕ} {past : Journal} where
  -- so it is for each query of a task that stands
  grows : Stored asks (stands root) ring here tickets flights closed slots pieces capacity past → (s t c : ℕ) (queries : List ℕ) → Flight past s t c queries → (q : ℕ) → q < 256 → has queries q ≡ true → is_standing past q ≡ true → is_collected past q ≡ false → Grows (stands root) pieces past s t c q
  grows h s t c queries f q low there up out =
      let w = splits (is_given past q) (λ x. is_given past q x || (c == x)) c (wanted past q) (λ x. refl) (h.kept.ascend q) (f.wants q there) (f.new q there) in
      record {
        piece = λ d. h.held.each q d low up out;
        further = false_from_ne_true _ (λ y. both_ways _ (f.new q there) (has_filter (is_given past q) (wanted past q) c y));
        later = λ lost.
            let is : given (past ++ Deliver s t lost ∷ []) q ≡ w.before ++ c ∷ w.after =
            ap (λ (l : List ℕ). filter (is_given (past ++ Deliver s t lost ∷ []) q) l) (flat_none (chunks_for q) past (Deliver s t lost) refl)
            ∙ (filter_on (is_given (past ++ Deliver s t lost ∷ []) q) (λ x. is_given past q x || (c == x)) (wanted past q) (λ x _. gives_task f s lost q there x) ∙ w.with_it) in
            subst (λ (l : List ℕ). IsOneMore l c (given (past ++ Deliver s t lost ∷ []) q)) (sym w.without)
            (subst (IsPermutation (c ∷ (w.before ++ w.after))) (sym is) (IsPermutation-sym _ _ (IsPermutation-middle w.before c w.after)));
      }

  -- the pieces that come may be absorbed
  pub all_fit : Stored asks (stands root) ring here tickets flights closed slots pieces capacity past → (s t c : ℕ) (queries : List ℕ) → Flight past s t c queries → (entries : List (Option P)) → PiecesFit (stands root) c queries entries → FitAll stands slots queries entries pieces
  all_fit h s t c queries f entries fit = record {
    each = λ turn d l run.
        let q : ℕ = get_or queries turn 0 in
        let low : q < 256 = f.tasked.to_255 turn l in
        let going : is_running past q ≡ true = sym (run_told h.kept q low d) ∙ run in
        let up : is_standing past q ≡ true = (and_parts (is_standing past q) _ going).0 in
        let out : is_collected past q ≡ false = false_from_ne_true _ (λ y. both_ways _ (collected_rests past q h.kept.run y) going) in
        one turn (grows h s t c queries f q low (has_at queries turn 0 l) up out) (get_or pieces q None) (get_or entries turn None) refl refl;
  } where
    one : (turn : ℕ) → Grows (stands root) pieces past s t c (get_or queries turn 0) → (mine entry : Option P) → get_or pieces (get_or queries turn 0) None ≡ mine → get_or entries turn None ≡ entry → Fitting stands mine entry
    one turn g None entry a b = record {}
    one turn g (Some mine) None a b = record {}
    one turn g (Some mine) (Some other) a b =
        let p = g.piece None in
        let same : p.it ≡ mine = (let e = p.there in cc) in
        record {
          root = root;
          q = get_or queries turn 0;
          chunks = given past (get_or queries turn 0);
          chunk = c;
          further = g.further;
          this = subst (stands root (get_or queries turn 0) (given past (get_or queries turn 0))) same p.for;
          that = entry_stands (stands root) c queries entries fit turn other b;
        }

  -- the queries that were lost are of the task, and ran
  pub lost_ran : Stored asks (stands root) ring here tickets flights closed slots pieces capacity past → (s t c : ℕ) (queries : List ℕ) → Flight past s t c queries → (entries new : List (Option P)) (lost : List ℕ) → HandedIn (Absorbs stands) slots queries entries pieces new lost (length queries) → (q : ℕ) → has lost q ≡ true → (has queries q ≡ true) × (is_running past q ≡ true)
  lost_ran h s t c queries f entries new lost handed q there =
      let w = handed.losable q there in
      let full : length slots ≡ 256 = h.kept.full in
      let d : Slot = some_slot 0 slots (omega (arith, full)) in
      let low : q < 256 = subst (λ z. z < 256) w.2 (f.tasked.to_255 w.0 w.1) in
      (subst (λ z. has queries z ≡ true) w.2 (has_at queries w.0 0 w.1), sym (run_told h.kept q low d) ∙ w.3 d)

  pub may_deliver : Stored asks (stands root) ring here tickets flights closed slots pieces capacity past → (s t c : ℕ) (queries : List ℕ) → Flight past s t c queries → is_delivered past t ≡ false → (entries new : List (Option P)) (lost : List ℕ) → HandedIn (Absorbs stands) slots queries entries pieces new lost (length queries) → MayDeliver past s t lost
  may_deliver h s t c queries f not_yet entries new lost handed = record {
    same_seat = f.seat;
    in_flight = not_yet;
    losable = all_from_has (λ q. is_running past q && list_any (names_with t q) past) lost (λ q there. let w = lost_ran h s t c queries f entries new lost handed q there in and_from _ _ w.1 (f.named q w.0));
  }

  -- the pieces after a Deliver
  held_deliver : Stored asks (stands root) ring here tickets flights closed slots pieces capacity past → (s t c : ℕ) (queries : List ℕ) → Flight past s t c queries → (entries : List (Option P)) → PiecesFit (stands root) c queries entries → (new : List (Option P)) (lost : List ℕ) → HandedIn (Absorbs stands) slots queries entries pieces new lost (length queries) → HavePieces (stands root) new (past ++ Deliver s t lost ∷ [])
  held_deliver h s t c queries f entries fit new lost handed = record {
    full = handed.len ∙ h.held.full;
    each = λ q d low up out.
        let before : is_standing past q ≡ true = stood past line q refl up in
        let kept : is_collected past q ≡ false = any_front (collects q) past (line ∷ []) out in
        ⊎_elim
        (λ y. let w = has_index queries q 0 y in
        let full : length slots ≡ 256 = h.kept.full in
        let z : Slot = some_slot 0 slots (omega (arith, full)) in
        let going : is_running past q ≡ true = and_from _ _ before (not_from_false _ (false_from_ne_true _ (λ all. both_ways _ (f.new q y) (all_has (is_given past q) (wanted past q) c all (f.wants q y))))) in
        let a = handed.each w.0 z w.1 (subst (λ k. runs (get_or slots k z) ≡ true) (sym w.2) (run_told h.kept q low z ∙ going)) (subst (λ k. has lost k ≡ false) (sym w.2) (not_lost q up)) in
        joined q w.0 w.2 low (grows h s t c queries f q low y before kept) (subst (λ k. Absorbed (Absorbs stands) (get_or entries w.0 None) (get_or pieces k None) (get_or new k None)) w.2 a) d)
        (λ n. subst (StandsFor (stands root q) (given (past ++ line ∷ []) q)) (sym (handed.other q d (no_turn queries q n)))
        (subst (λ (l : List ℕ). StandsFor (stands root q) l (get_or pieces q d)) (sym (same_given q n)) (h.held.each q d low before kept)))
        (cases_Bool (has queries q));
  } where
    line : JournalLine
    line = Deliver s t lost

    not_lost : (q : ℕ) → is_standing (past ++ line ∷ []) q ≡ true → has lost q ≡ false
    not_lost q up = false_from_ne_true _ (λ y. both_ways _ (not_gone (past ++ line ∷ []) q up) (any_later (loses q) past (line ∷ []) (or_left (has lost q) false y)))

    same_given : (q : ℕ) → has queries q ≡ false → given (past ++ line ∷ []) q ≡ given past q
    same_given q n = ap (λ (l : List ℕ). filter (is_given (past ++ line ∷ []) q) l) (flat_none (chunks_for q) past line refl) ∙ filter_on (is_given (past ++ line ∷ []) q) (is_given past q) (wanted past q) (λ x _. gives_other f s lost q n x)

    joined : (q turn : ℕ) → get_or queries turn 0 ≡ q → q < 256 → Grows (stands root) pieces past s t c q → Absorbed (Absorbs stands) (get_or entries turn None) (get_or pieces q None) (get_or new q None) → (d : Option P) → StandsFor (stands root q) (given (past ++ line ∷ []) q) (get_or new q d)
    joined q turn e low g a d =
        let p = g.piece None in
        let same : p.it ≡ a.mine = (let x = p.there in let y = a.was in cc) in
        let mine : stands root q (given past q) a.mine = subst (stands root q (given past q)) same p.for in
        let other : stands root q (c ∷ []) a.other = subst (λ k. stands root k (c ∷ []) a.other) e (entry_stands (stands root) c queries entries fit turn a.other a.came) in
        let len : length new ≡ length pieces = handed.len in
        let full : length pieces ≡ 256 = h.held.full in
        record {
          it = a.it;
          there = any_default new q d None (omega (arith, len, full, low)) ∙ a.now;
          for = a.joined root q (given past q) c (given (past ++ line ∷ []) q) g.further (g.later lost) mine other;
        }

  -- a task is in flight
  pub flights_some : Stored asks (stands root) ring here tickets flights closed slots pieces capacity past → (s t : ℕ) (lost : List ℕ) → MayDeliver past s t lost → 1 ≤ flights
  flights_some h s t lost m =
      let line : JournalLine = Deliver s t lost in
      let few : count_by is_deliver (past ++ line ∷ []) ≤ count_by takes (past ++ line ∷ []) = delivers_few (past ++ line ∷ []) (run_more past line h.kept.run m) in
      let d : count_by is_deliver (past ++ line ∷ []) ≡ count_by is_deliver past + 1 = count_push is_deliver past line in
      let t : count_by takes (past ++ line ∷ []) ≡ count_by takes past + 0 = count_push takes past line in
      let flying : flights + count_by is_deliver past ≡ count_by takes past = h.flying in
      omega (arith, few, d, t, flying)

  -- and there is room for its Deliver
  pub deliver_fits : Stored asks (stands root) ring here tickets flights closed slots pieces capacity past → (s t : ℕ) (lost : List ℕ) → MayDeliver past s t lost → length past < capacity
  deliver_fits h s t lost m =
      let some : 1 ≤ flights = flights_some h s t lost m in
      let room : length past + to_come ring past ≤ capacity + count_by is_deliver past = h.room in
      let flying : flights + count_by is_deliver past ≡ count_by takes past = h.flying in
      omega (arith, some, room, flying)

  pub stored_deliver : Stored asks (stands root) ring here tickets flights closed slots pieces capacity past → (s t c : ℕ) (queries : List ℕ) → Flight past s t c queries → is_delivered past t ≡ false → (entries : List (Option P)) → PiecesFit (stands root) c queries entries → (new : List (Option P)) (lost : List ℕ) → HandedIn (Absorbs stands) slots queries entries pieces new lost (length queries) → (after : List Slot) → PaidAll queries lost slots after (length queries) → Stored asks (stands root) ring here tickets (flights - 1) closed after new capacity (past ++ Deliver s t lost ∷ [])
  stored_deliver h s t c queries f not_yet entries fit new lost handed after paid =
      let line : JournalLine = Deliver s t lost in
      let m : MayDeliver past s t lost = may_deliver h s t c queries f not_yet entries new lost handed in
      let some : 1 ≤ flights = flights_some h s t lost m in
      let room : length past + to_come ring past ≤ capacity + count_by is_deliver past = h.room in
      let flying : flights + count_by is_deliver past ≡ count_by takes past = h.flying in
      let d : count_by is_deliver (past ++ line ∷ []) ≡ count_by is_deliver past + 1 = count_push is_deliver past line in
      let t : count_by takes (past ++ line ∷ []) ≡ count_by takes past + 0 = count_push takes past line in
      let l : length (past ++ line ∷ []) ≡ length past + 1 = length-append past (line ∷ []) in
      let less : to_come ring (past ++ line ∷ []) ≤ to_come ring past = deliver_room ring past s _ lost m in
      record {
        kept = kept_deliver h.kept s _ c queries lost f m (λ q y. (lost_ran h s _ c queries f entries new lost handed q y).0) after paid;
        asked = All-push (IsAsked asks) past line h.asked (record {});
        held = held_deliver h s _ c queries f entries fit new lost handed;
        flying = omega (arith, flying, d, t, some);
        room = omega (arith, room, d, l, less);
      }

  -- what a deliver promises
  pub delivers_task : Stored asks (stands root) ring here tickets flights closed slots pieces capacity past → (s : ℕ) (task : TaskState) → Flight past s task.ticket task.chunk task.queries → is_delivered past task.ticket ≡ false → (entries new : List (Option P)) (lost : List ℕ) → HandedIn (Absorbs stands) slots task.queries entries pieces new lost (length task.queries) → (lines : Journal) → lines ≡ past ++ Deliver s task.ticket lost ∷ [] → (refuses : P → P → Type 0) → RefusedAll refuses task.queries entries pieces lost (length task.queries) → DeliversTask {R = R} refuses s task entries (record { root = root; ring = ring; past = past }) (record { root = root; ring = ring; past = lines })
  delivers_task h s task f not_yet entries new lost handed lines line refuses refused = rw line (record {
    lost = lost;
    may = may_deliver h s task.ticket task.chunk task.queries f not_yet entries new lost handed;
    line = refl;
    loses = record {
      missing = λ turn l none run. true_from_ne_false _ (λ kept.
          let full : length slots ≡ 256 = h.kept.full in
          let z : Slot = some_slot 0 slots (omega (arith, full)) in
          let a = handed.each turn z l (run_told h.kept (get_or task.queries turn 0) (f.tasked.to_255 turn l) z ∙ run) kept in
          let came = a.came in
          absurd (cc));
    };
    causes = record {
      each = λ turn l there.
          let q : ℕ = get_or task.queries turn 0 in
          let going : is_running past q ≡ true = (lost_ran h s task.ticket task.chunk task.queries f entries new lost handed q there).1 in
          let up : is_standing past q ≡ true = (and_parts (is_standing past q) _ going).0 in
          let out : is_collected past q ≡ false = false_from_ne_true _ (λ y. both_ways _ (collected_rests past q h.kept.run y) going) in
          let piece = h.held.each q None (f.tasked.to_255 turn l) up out in
          caused piece.it (get_or entries turn None) (subst (λ (z : Option P). Refuses refuses z (get_or entries turn None)) piece.there (refused.each turn l there));
    };
  }) where
    -- the piece of a running query is present
    caused : (mine : P) (entry : Option P) → Refuses refuses (Some mine) entry → IfSome entry (λ other. (it : P) × refuses it other)
    caused mine None r = tt
    caused mine (Some other) r = (mine, r)
