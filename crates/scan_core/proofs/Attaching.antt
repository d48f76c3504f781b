-- What a board's slots say after an Attach.
use Rattle.std.proofs.Common.{filter, AllPairs, ◌≡◌, ℕ, ◌+◌, ◌<◌, ◌≤◌, ◌==◌, List, [], ◌∷◌, ◌++◌, length, get_or, Bool, true, false, not, cond, zero, suc, ⊎_elim, refl, sym, ◌∙◌, ap, subst, arith, count_by, ne_eqb, eq-eqb}
use Rattle.std.proofs.lemmas.Bool.{or_parts, cases_Bool, cases_eq, false_from_ne_true, both_ways, or_left, cond-true, cond-false}
use Rattle.scan_rules.specs.declared.journal_line.JournalLine.{JournalLine}
use Rattle.scan_rules.specs.declared.journal_line.JournalLine.TheVariants.{Attach, Take, Deliver, Cancel, Collect, Close}
use Rattle.scan_rules.proofs.Giving.{is_given_same}
use Rattle.scan_rules.proofs.Lists.{any_later, any_none, count_cons, count_push, flat_push}
use Rattle.scan_rules.proofs.Runs.{run_more}
use Rattle.scan_rules.proofs.Scan.{needs_from, place_other}
use Rattle.scan_rules.proofs.Serving.{given_is_served, lost_named, named_attached, needs_tells, served_is_wanted}
use Rattle.scan_rules.specs.Lines.{attaches, cancels, chunks_for, closes, collects, loses, serves}
use Rattle.scan_rules.specs.Numbers.{below, has}
use Rattle.scan_rules.specs.Queries.{given, Journal, is_attached, is_cancelled, is_given, is_lost, is_running, is_served, wanted}
use Rattle.scan_rules.specs.Runs.{IsRun, MayFollow}
use Rattle.scan_rules.specs.Scan.{place, running_count}
use Rattle.scan_core.specs.declared.slot.Slot.{Slot}
use Rattle.scan_core.specs.Kept.{Fits, Kept, IsAhead}
use Rattle.scan_core.specs.Changes.{Attached, AttachedAt}
use Rattle.scan_core.proofs.Words.{fits_same}
use Rattle.scan_rules.proofs.Going.{Calm, ascend_same, cancelled_attached, none_taken, running_same}

-- a query that was not attached has no list
nothing_wanted : (past : Journal) (q : ℕ) → is_attached past q ≡ false → wanted past q ≡ []
nothing_wanted [] q h = refl
nothing_wanted (l ∷ ls) q h = let p = or_parts (attaches q l) _ h in ap (λ (z : List ℕ). z ++ wanted ls q) (none l p.0) ∙ nothing_wanted ls q p.1 where
  none : (l : JournalLine) → attaches q l ≡ false → chunks_for q l ≡ []
  none (Attach s p chunks) h = cond-false (p == q) chunks [] h
  none (Take s t c queries) h = refl
  none (Deliver s t queries) h = refl
  none (Cancel s p) h = refl
  none (Collect s p) h = refl
  none (Close s) h = refl

-- where all pass all are counted
count_all : (p : ℕ → Bool) (xs : List ℕ) → ((x : ℕ) → p x ≡ true) → count_by p xs ≡ length xs
count_all p [] h = refl
count_all p (x ∷ xs) h = let i : count_by p xs ≡ length xs = count_all p xs h in count_cons p x xs ∙ (ap (λ b. cond b 1 0 + count_by p xs) (h x) ∙ omega (arith, i))

-- where only one number may pass the one test and not the other, it counts one more at most
one_more : (p r : ℕ → Bool) (q n : ℕ) → ((x : ℕ) → (x ≡ q → ⊥) → p x ≡ true → r x ≡ true) → (count_by p (below n) ≤ count_by r (below n) + 1) × (n ≤ q → count_by p (below n) ≤ count_by r (below n))
unfolding below
one_more p r q zero w = (omega arith, λ l. omega arith)
one_more p r q (suc n) w =
    let i = one_more p r q n w in
    let a : count_by p (below n ++ n ∷ []) ≡ count_by p (below n) + cond (p n) 1 0 = count_push p (below n) n in
    let b : count_by r (below n ++ n ∷ []) ≡ count_by r (below n) + cond (r n) 1 0 = count_push r (below n) n in
    ⊎_elim
    (λ e. let j : count_by p (below n) ≤ count_by r (below n) = i.1 (omega (arith, e)) in let u : cond (p n) 1 0 ≤ 1 = low (p n) in (omega (arith, a, b, j, u), λ l. absurd (omega (arith, e, l))))
    (λ ne. let u : cond (p n) 1 0 ≤ cond (r n) 1 0 = goes (p n) (r n) (w n ne) in let k : count_by p (below n) ≤ count_by r (below n) + 1 = i.0 in
    (omega (arith, a, b, u, k), λ l. let j : count_by p (below n) ≤ count_by r (below n) = i.1 (omega (arith, l)) in omega (arith, a, b, u, j)))
    (cases_eq n q) where
      low : (b : Bool) → cond b 1 0 ≤ 1
      low true = omega arith
      low false = omega arith

      goes : (x y : Bool) → (x ≡ true → y ≡ true) → cond x 1 0 ≤ cond y 1 0
      goes false y h = omega arith
      goes true y h = subst (λ z. 1 ≤ cond z 1 0) (sym (h refl)) (omega arith)

-- an Attach changes nothing of other queries
calm_attach : (s q : ℕ) (chunks : List ℕ) (j : ℕ) → (j ≡ q → ⊥) → Calm j (Attach s q chunks)
calm_attach s q chunks j n = let e = ne_eqb q j (λ e. n (sym e)) in record { attach = e; chunks = cond-false (q == j) chunks [] e; cancel = refl; lose = refl; deliver = refl }

-- it wants the chunks that it was attached with
attached_wants : (past : Journal) (s q : ℕ) (chunks : List ℕ) → is_attached past q ≡ false → wanted (past ++ Attach s q chunks ∷ []) q ≡ chunks
attached_wants past s q chunks fresh = flat_push (chunks_for q) past (Attach s q chunks) ∙ (ap (λ (l : List ℕ). l ++ chunks_for q (Attach s q chunks)) (nothing_wanted past q fresh) ∙ cond-true (q == q) chunks [] (eq-eqb q q refl))

-- nothing is given to a query that was just attached
nothing_given : (ring : ℕ) (past : Journal) (s q : ℕ) (chunks : List ℕ) → IsRun ring past → MayFollow ring past (Attach s q chunks) → (c : ℕ) → is_given (past ++ Attach s q chunks ∷ []) q c ≡ false
nothing_given ring past s q chunks r m c = is_given_same ring past (Attach s q chunks) q c r m refl ∙ false_from_ne_true _ (λ h. both_ways _ m.fresh (served_is_wanted past q c r (given_is_served past past q c h)).0)

-- so the list of what is given is empty
pub given_none : (ring : ℕ) (past : Journal) (s q : ℕ) (chunks : List ℕ) → IsRun ring past → MayFollow ring past (Attach s q chunks) → given (past ++ Attach s q chunks ∷ []) q ≡ []
given_none ring past s q chunks r m = filter_none (is_given (past ++ Attach s q chunks ∷ []) q) (wanted (past ++ Attach s q chunks ∷ []) q) (nothing_given ring past s q chunks r m) where
  filter_none : (p : ℕ → Bool) (xs : List ℕ) → ((x : ℕ) → p x ≡ false) → filter p xs ≡ []
  filter_none p [] n = refl
  filter_none p (x ∷ xs) n = cond-false (p x) (x ∷ filter p xs) (filter p xs) (n x) ∙ filter_none p xs n

-- the slot of a query that is attached
attached_fits : (ring : ℕ) (past : Journal) (s q : ℕ) (chunks : List ℕ) (old new : Slot) → IsRun ring past → MayFollow ring past (Attach s q chunks) → Fits ring past q old → Attached ring (place ring past) chunks old new → Fits ring (past ++ Attach s q chunks ∷ []) q new
attached_fits ring past s q chunks old new r m f t = record {
  words = record {
    attached = t.attached ∙ sym now;
    cancelled = t.cancelled ∙ (f.words.cancelled ∙ sym (any_none (cancels q) past line refl));
    lost = t.lost ∙ (f.words.lost ∙ sym (any_none (loses q) past line refl));
    collected = t.collected ∙ (f.words.collected ∙ sym (any_none (collects q) past line refl));
    owed = t.owed ∙ sym (ap (λ (l : List ℕ). count_by (λ c. not (is_given (past ++ line ∷ []) q c)) l) want ∙ count_all (λ c. not (is_given (past ++ line ∷ []) q c)) chunks (λ c. ap not (no_gift c)));
  };
  ahead = λ c. t.members c ∙ ⊎_elim
      (λ y. y ∙ sym (needs_from (past ++ line ∷ []) q c now (any_none (cancels q) past line refl ∙ uncancelled) (any_none (loses q) past line refl ∙ kept) (ap (λ (l : List ℕ). has l c) want ∙ y) (any_none (serves q c) past line refl ∙ unmet c)))
      (λ n. n ∙ sym (false_from_ne_true _ (λ h. both_ways _ n (sym (ap (λ (l : List ℕ). has l c) want) ∙ (needs_tells (past ++ line ∷ []) q c h).wants))))
      (cases_Bool (has chunks c));
  ordered = subst (λ p. IsAhead ring p new.ahead.items) (sym (place_other ring past line refl)) t.ordered;
} where
  line : JournalLine
  line = Attach s q chunks

  fresh : is_attached past q ≡ false
  fresh = m.fresh

  now : is_attached (past ++ line ∷ []) q ≡ true
  now = any_later (attaches q) past (line ∷ []) (or_left (q == q) false (eq-eqb q q refl))

  want : wanted (past ++ line ∷ []) q ≡ chunks
  want = attached_wants past s q chunks fresh

  uncancelled : is_cancelled past q ≡ false
  uncancelled = false_from_ne_true _ (λ h. both_ways _ fresh (cancelled_attached past q r h))

  kept : is_lost past q ≡ false
  kept = false_from_ne_true _ (λ h. both_ways _ fresh (named_attached past q r (lost_named past q r h)))

  unmet : (c : ℕ) → is_served past q c ≡ false
  unmet c = false_from_ne_true _ (λ h. both_ways _ fresh (served_is_wanted past q c r h).0)

  no_gift : (c : ℕ) → is_given (past ++ line ∷ []) q c ≡ false
  no_gift c = nothing_given ring past s q chunks r m c

-- an Attach
pub kept_attach : (ring here tickets : ℕ) (closed : Bool) (slots after : List Slot) (past : Journal) (s q : ℕ) (chunks : List ℕ) → Kept ring here tickets closed slots past → MayFollow ring past (Attach s q chunks) → AllPairs (λ a b. a < b) chunks → AttachedAt ring (place ring past) chunks slots after q → Kept ring here tickets closed after (past ++ Attach s q chunks ∷ [])
kept_attach ring here tickets closed slots after past s q chunks k m up t =
    let line : JournalLine = Attach s q chunks in
    let more : running_count (past ++ line ∷ []) ≤ running_count past + 1 = (one_more (is_running (past ++ line ∷ [])) (is_running past) q 256 (λ x n h. sym (running_same ring past line x k.run m (calm_attach s q chunks x n)) ∙ h)).0 in
    let room : running_count past < 64 = m.room in
    record {
      small = k.small;
      low = k.low;
      run = run_more past line k.run m;
      stands = k.stands ∙ sym (place_other ring past line refl);
      counted = k.counted ∙ sym (none_taken past line refl);
      closes = k.closes ∙ sym (any_none closes past line refl);
      full = t.beside.len ∙ k.full;
      few = omega (arith, more, room);
      ascend = λ j. ⊎_elim
          (λ e. subst (λ z. AllPairs (λ a b. a < b) (wanted (past ++ line ∷ []) z)) (sym e) (subst (AllPairs (λ a b. a < b)) (sym (attached_wants past s q chunks m.fresh)) up))
          (λ n. ascend_same past line j (calm_attach s q chunks j n).chunks (k.ascend j))
          (cases_eq j q);
      each = λ j d l. ⊎_elim
          (λ e. subst (λ z. Fits ring (past ++ line ∷ []) z (get_or after z d)) (sym e) (attached_fits ring past s q chunks (get_or slots q d) (get_or after q d) k.run m (k.each q d (subst (λ z. z < 256) e l)) (t.here d)))
          (λ n. subst (Fits ring (past ++ line ∷ []) j) (sym (t.beside.other j d n)) (fits_same ring past line j (get_or slots j d) k.run m (calm_attach s q chunks j n) refl (λ c. refl) refl (k.each j d l)))
          (cases_eq j q);
    }
